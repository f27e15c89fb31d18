-- What is given to ports that keep everything is kept.
use Rattle.std.proofs.Common.{◌≡◌, Bool, List, [], ◌∷◌, ◌++◌, map, reverse, refl, sym, ap, ◌∙◌, subst, append_assoc, append-nil}
use Rattle.mj_base.specs.declared.event.Event.{Event}
use Rattle.mj_serve.specs.Given.{Entry}
use Rattle.mj_serve_tests.specs.Recording.{AddsOne, Keeps, entry_of}
use Rattle.mj_serve_tests.specs.declared.recorder.Kept.{Kept}

map-one : (kept : List Kept) (one : Kept) → map entry_of (kept ++ one ∷ []) ≡ map entry_of kept ++ entry_of one ∷ []
map-one [] one = refl
map-one (first ∷ kept) one = ap (λ (es : List Entry). entry_of first ∷ es) (map-one kept one)

pub keeps-more : (first coming now taken : List Event) (before kept more : List Kept) (lost later : Bool) (given : List Entry) (one : Kept) → now ≡ coming → AddsOne lost later kept more one
    → Keeps first coming taken before kept lost given → Keeps first now taken before more later (given ++ entry_of one ∷ [])
keeps-more first coming now taken before kept more lost later given one same adds keeps = record {
  passed_over = keeps.passed_over;
  came = keeps.came ∙ ap (λ (es : List Event). keeps.passed_over ++ (es ++ reverse taken)) (sym same);
  gave = λ none.
      let both = adds none in
      ap (map entry_of) both.1 ∙ map-one kept one ∙ ap (λ (es : List Entry). es ++ entry_of one ∷ []) (keeps.gave both.0) ∙ append_assoc (map entry_of before) given (entry_of one ∷ []);
}

-- the rest is passed over
pub takes-none : (first coming now taken : List Event) (before kept : List Kept) (lost : Bool) (given : List Entry) → now ≡ []
    → Keeps first coming taken before kept lost given → Keeps first now (taken ++ []) before kept lost given
takes-none first coming now taken before kept lost given none keeps =
    subst (λ (es : List Event). Keeps first now es before kept lost given) (sym (append-nil taken))
    (subst (λ (es : List Event). Keeps first es taken before kept lost given) (sym none)
    (record { passed_over = keeps.passed_over ++ coming; came = keeps.came ∙ sym (append_assoc keeps.passed_over coming (reverse taken)); gave = keeps.gave }))
