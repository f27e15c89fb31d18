-- The services by their names.
use Rattle.std.proofs.Common.{◌≡◌, ◌∙◌, Bool, true, false, cond, List, ℕ, None, Some, ap}
use Rattle.std.specs.Prelude.{codes}
use Rattle.std.specs.Str.{bytes_eq}
use Rattle.mj_machine.specs.TitanicStep.{Submits, Fetches, Finishes, titanic_of}

module _ (name : List ℕ) where
  pub is-submits : bytes_eq name (codes "titanic.request") ≡ true → titanic_of name ≡ Some Submits
  is-submits one = ap (λ (a : Bool). cond a (Some Submits) (cond (bytes_eq name (codes "titanic.reply")) (Some Fetches) (cond (bytes_eq name (codes "titanic.close")) (Some Finishes) None))) one

  pub is-fetches : bytes_eq name (codes "titanic.request") ≡ false → bytes_eq name (codes "titanic.reply") ≡ true → titanic_of name ≡ Some Fetches
  is-fetches one two =
      ap (λ (a : Bool). cond a (Some Submits) (cond (bytes_eq name (codes "titanic.reply")) (Some Fetches) (cond (bytes_eq name (codes "titanic.close")) (Some Finishes) None))) one
      ∙ ap (λ (b : Bool). cond b (Some Fetches) (cond (bytes_eq name (codes "titanic.close")) (Some Finishes) None)) two

  pub is-finishes : bytes_eq name (codes "titanic.request") ≡ false → bytes_eq name (codes "titanic.reply") ≡ false → bytes_eq name (codes "titanic.close") ≡ true → titanic_of name ≡ Some Finishes
  is-finishes one two three =
      ap (λ (a : Bool). cond a (Some Submits) (cond (bytes_eq name (codes "titanic.reply")) (Some Fetches) (cond (bytes_eq name (codes "titanic.close")) (Some Finishes) None))) one
      ∙ ap (λ (b : Bool). cond b (Some Fetches) (cond (bytes_eq name (codes "titanic.close")) (Some Finishes) None)) two
      ∙ ap (λ (c : Bool). cond c (Some Finishes) None) three

  pub is-none : bytes_eq name (codes "titanic.request") ≡ false → bytes_eq name (codes "titanic.reply") ≡ false → bytes_eq name (codes "titanic.close") ≡ false → titanic_of name ≡ None
  is-none one two three =
      ap (λ (a : Bool). cond a (Some Submits) (cond (bytes_eq name (codes "titanic.reply")) (Some Fetches) (cond (bytes_eq name (codes "titanic.close")) (Some Finishes) None))) one
      ∙ ap (λ (b : Bool). cond b (Some Fetches) (cond (bytes_eq name (codes "titanic.close")) (Some Finishes) None)) two
      ∙ ap (λ (c : Bool). cond c (Some Finishes) None) three
