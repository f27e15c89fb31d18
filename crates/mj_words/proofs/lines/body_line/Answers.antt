use Rattle.std.proofs.Common.{ℕ, ◌+◌, ◌∷◌, ◌++◌, List, String, Global, drop, ap, sym, ◌∙◌, append_assoc}
use Rattle.std.specs.Prelude.{string_bytes}
use Rattle.mj_words.specs.Lines.{frame_word, frames_text}
use Rattle.mj_words.proofs.FrameLemmas.{nothing-behind}
use Rattle.mj_words.proofs.lines.body_line.Goals as goal
use Rattle.mj_words.proofs.lines.body_line.Goals.{in-Some+in_ok-push_frame, in_default}

pub loop-i-preserved : goal.loop-i-preserved
loop-i-preserved c =
    let rest = frames_text (drop (c.loop-i.i + 1) c.args.body.now) in
    elim c.match-get.branch [
      | in-Some+in_ok-push_frame w ↦
          ap (λ (l : String Global). string_bytes l ++ rest) w.line-is
          ∙ ap (λ (l : List ℕ). l ++ rest) w.in_ok-push_frame.ensures
          ∙ append_assoc (string_bytes c.loop-i.line) (32 ∷ frame_word w.in-Some.frame.now) rest
          ∙ ap (λ (b : List (List ℕ)). string_bytes c.loop-i.line ++ frames_text b) (sym w.in-Some.ensures.rest.1)
          ∙ c.loop-i.invariant
      | in_default w ↦
          ap (λ (l : String Global). string_bytes l ++ rest) w.line-is
          ∙ ap (λ (b : List (List ℕ)). string_bytes c.loop-i.line ++ frames_text b) (nothing-behind c.args.body.now c.loop-i.i w.in_default.ensures.rest)
          ∙ c.loop-i.invariant
    ]
