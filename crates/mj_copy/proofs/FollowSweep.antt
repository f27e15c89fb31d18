-- Messages are taken one after the other, as the rules take all of them.
use Rattle.std.proofs.Common.{◌≡◌, ℕ, zero, suc, true, false, List, [], ◌++◌, length, refl, sym, ◌∙◌, ap, append_assoc, append-nil}
use Rattle.mj_copy.specs.FollowRules.{FollowTurn, follow_all, follow_gains}
use Rattle.mj_copy.specs.FollowStands.{Follows, Swept, TakesOne, behind, following_of}
use Rattle.mj_copy.specs.declared.follow.Follow.{Follow}
use Rattle.mj_copy.specs.declared.follow_act.FollowAct.{FollowAct}

pub swept_start : (s : Follow) (acts : List FollowAct) → Swept s s acts acts (length s.kept.items)
swept_start s acts = record { so_far = []; acts = sym (append-nil acts); rest = refl }

pub swept_more : (start old now : Follow) (before mid after : List FollowAct) (left : ℕ) → Swept start old before mid (suc left) → TakesOne old now mid after true → Swept start now before after left
swept_more start old now before mid after left swept one = record {
  so_far = swept.so_far ++ one.added;
  acts = one.acts ∙ ap (λ (xs : List FollowAct). xs ++ one.added) swept.acts ∙ append_assoc before swept.so_far one.added;
  rest = swept.rest ∙ ap (behind swept.so_far) (one.rest left) ∙ ap (λ (xs : List FollowAct). ((follow_all left (following_of now)).0, xs)) (sym (append_assoc swept.so_far one.added (follow_all left (following_of now)).1));
}

pub swept_stop : (start old now : Follow) (before mid after : List FollowAct) (left : ℕ) → Swept start old before mid (suc left) → TakesOne old now mid after false → Follows start now before after follow_gains
swept_stop start old now before mid after left swept one =
    let whole = swept.rest ∙ ap (behind swept.so_far) (one.rest left) in (
      sym (ap (λ (turn : FollowTurn). turn.0) whole),
      one.acts ∙ ap (λ (xs : List FollowAct). xs ++ one.added) swept.acts ∙ append_assoc before swept.so_far one.added
          ∙ ap (λ (xs : List FollowAct). before ++ xs) (sym (ap (λ (turn : FollowTurn). turn.1) whole)),
    )

pub swept_end : (start now : Follow) (before after : List FollowAct) → Swept start now before after zero → Follows start now before after follow_gains
swept_end start now before after swept =
    let state : following_of now ≡ (follow_gains (following_of start)).0 = sym (ap (λ (turn : FollowTurn). turn.0) swept.rest) in
    let acts : (follow_gains (following_of start)).1 ≡ swept.so_far = ap (λ (turn : FollowTurn). turn.1) swept.rest ∙ append-nil swept.so_far in
    (state, swept.acts ∙ ap (λ (xs : List FollowAct). before ++ xs) (sym acts))
