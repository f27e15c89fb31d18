mod StreamLemmas
mod StepLemmas
mod TableLemmas
