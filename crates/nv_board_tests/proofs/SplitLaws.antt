-- Laws about a pass of a board that makes another one, and takes it in.
use Rattle.std.proofs.Common.{◌≡◌, [], ap, ◌∙◌}
use Rattle.nv_core.specs.state.Passes.{Pass}
use Rattle.nv_table.specs.passes.PassesMade.{IsSplit, IsTakenIn}
use Rattle.nv_table.specs.state.Opened.{Opened}
use Rattle.nv_table.specs.state.Views.{PassView, pass_of, first_view}
use Rattle.nv_table.specs.state.States.{BoardState, PassState, IsOf}

-- pass 0 has put nothing back when it is made
pub newcomer_left : (view : PassView) (opened : Opened) → view ≡ first_view opened → (pass_of view).left ≡ []
newcomer_left view opened is = ap (λ (s : PassView). (pass_of s).left) is

module _ (board : BoardState) (old new other : PassState) (split : IsSplit old new other) (of : IsOf board old) where
  -- both passes are of the board
  pub split_of : IsOf board new
  split_of = record {
    same_table = ap (λ (p : PassState). p.table) split.parent_is ∙ of.same_table;
    same_mount = ap (λ (p : PassState). p.view.opened) split.parent_is ∙ ap (λ (s : PassView). s.opened) split.made.is ∙ of.same_mount;
  }

  pub other_of : IsOf board other
  other_of = record {
    same_table = ap (λ (p : PassState). p.table) split.child_is ∙ of.same_table;
    same_mount = ap (λ (p : PassState). p.view.opened) split.child_is ∙ ap (λ (s : PassView). s.opened) split.made.is ∙ of.same_mount;
  }

-- the first one carries what it did, and has put back what it had
pub split_now : {old new other : PassState} → IsSplit old new other → old.now ≡ [] → new.now ≡ []
split_now split none = ap (λ (p : PassState). p.now) split.parent_is ∙ none

pub split_left : {old new other : PassState} → IsSplit old new other → (pass_of old.view).left ≡ [] → (pass_of new.view).left ≡ []
split_left split none = ap (λ (p : PassState). (pass_of p.view).left) split.parent_is ∙ ap (λ (p : Pass). p.left) split.made.pass ∙ none

-- it is still of the board when it has taken the other in, and carries what it did
pub taken_of : (board : BoardState) (old other new : PassState) → IsTakenIn old other new → IsOf board old → IsOf board new
taken_of board old other new taken of = record {
  same_table = ap (λ (p : PassState). p.table) taken.is ∙ of.same_table;
  same_mount = ap (λ (p : PassState). p.view.opened) taken.is ∙ ap (λ (s : PassView). s.opened) taken.taken.is ∙ of.same_mount;
}

pub taken_now : {old other new : PassState} → IsTakenIn old other new → old.now ≡ [] → new.now ≡ []
taken_now taken none = ap (λ (p : PassState). p.now) taken.is ∙ none
