use Rattle.std.proofs.Common.{◌≡◌, ap, ◌∙◌, sym, subst}
use Rattle.std.specs.Prelude.{Result, Ok, IfOk}
use Rattle.nv_table.specs.passes.PassesMade.{IsSplit}
use Rattle.nv_table.specs.state.Views.{pass_of}
use Rattle.nv_table.specs.state.States.{BoardState, PassState, IsOf}
use Rattle.nv_board_tests.proofs.SplitLaws.{newcomer_left, split_of, other_of, split_now, split_left, taken_of, taken_now}
use Rattle.nv_board_tests.proofs.mounts.a_mount_is_closed_once_all_passes_are_in.Goals as goal

at_ok : {T E : Type 0} (result : Result T E) (x : T) (P : T → Type 0) → result ≡ Ok x → IfOk result P → P x
at_ok result x P is holds = subst (λ (r : Result _ _). IfOk r P) is holds

pub close-requires-clause-still : goal.close-requires-clause-still
close-requires-clause-still g c =
    let split : IsSplit c.in-Ok.pass c.split_pass.new.pass c.expect-other.result = at_ok c.split_pass.result c.expect-other.result (IsSplit c.in-Ok.pass c.split_pass.new.pass) c.expect-other.ensures c.split_pass.ensures.made in
    c.bare_is_still.ensures (split_now split c.in-Ok.ensures.nothing)

pub join_pass-requires-clause-board : goal.join_pass-requires-clause-board
join_pass-requires-clause-board g c =
    let split : IsSplit c.in-Ok.pass c.split_pass.new.pass c.expect-other.result = at_ok c.split_pass.result c.expect-other.result (IsSplit c.in-Ok.pass c.split_pass.new.pass) c.expect-other.ensures c.split_pass.ensures.made in
    let of : IsOf c.in-Ok.mount.board c.split_pass.new.pass = split_of c.in-Ok.mount.board c.in-Ok.pass c.split_pass.new.pass c.expect-other.result split c.in-Ok.ensures.board in
    let pass_back : c.in-Err-close.pass ≡ c.split_pass.new.pass = c.in-Err-close.ensures.pass_back in
    let mount_back : c.in-Err-close.mount ≡ c.in-Ok.mount = c.in-Err-close.ensures.mount_back in
    subst (λ (board : BoardState). IsOf board c.in-Err-close.pass) (sym (c.board-2.ensures ∙ ap (λ mount. mount.board) mount_back))
    (subst (IsOf c.in-Ok.mount.board) (sym pass_back) of)

pub join_pass-requires-clause-other_board : goal.join_pass-requires-clause-other_board
join_pass-requires-clause-other_board g c =
    let split : IsSplit c.in-Ok.pass c.split_pass.new.pass c.expect-other.result = at_ok c.split_pass.result c.expect-other.result (IsSplit c.in-Ok.pass c.split_pass.new.pass) c.expect-other.ensures c.split_pass.ensures.made in
    let mount_back : c.in-Err-close.mount ≡ c.in-Ok.mount = c.in-Err-close.ensures.mount_back in
    subst (λ (board : BoardState). IsOf board c.expect-other.result) (sym (c.board-2.ensures ∙ ap (λ mount. mount.board) mount_back))
    (other_of c.in-Ok.mount.board c.in-Ok.pass c.split_pass.new.pass c.expect-other.result split c.in-Ok.ensures.board)

pub join_pass-requires-clause-staying : goal.join_pass-requires-clause-staying
join_pass-requires-clause-staying g c =
    let split : IsSplit c.in-Ok.pass c.split_pass.new.pass c.expect-other.result = at_ok c.split_pass.result c.expect-other.result (IsSplit c.in-Ok.pass c.split_pass.new.pass) c.expect-other.ensures c.split_pass.ensures.made in
    let pass_back : c.in-Err-close.pass ≡ c.split_pass.new.pass = c.in-Err-close.ensures.pass_back in
    ap (λ (p : PassState). (pass_of p.view).left) pass_back
    ∙ split_left split (newcomer_left c.in-Ok.pass.view c.in-Ok.mount.board.opened c.in-Ok.ensures.view)

pub close-requires-2-clause-board : goal.close-requires-2-clause-board
close-requires-2-clause-board g c =
    let split : IsSplit c.in-Ok.pass c.split_pass.new.pass c.expect-other.result = at_ok c.split_pass.result c.expect-other.result (IsSplit c.in-Ok.pass c.split_pass.new.pass) c.expect-other.ensures c.split_pass.ensures.made in
    let of : IsOf c.in-Ok.mount.board c.split_pass.new.pass = split_of c.in-Ok.mount.board c.in-Ok.pass c.split_pass.new.pass c.expect-other.result split c.in-Ok.ensures.board in
    let pass_back : c.in-Err-close.pass ≡ c.split_pass.new.pass = c.in-Err-close.ensures.pass_back in
    let mount_back : c.in-Err-close.mount ≡ c.in-Ok.mount = c.in-Err-close.ensures.mount_back in
    taken_of c.in-Err-close.mount.board c.in-Err-close.pass c.expect-other.result c.join_pass.new.pass c.join_pass.ensures.taken
    (subst (λ (board : BoardState). IsOf board c.in-Err-close.pass) (sym (ap (λ mount. mount.board) mount_back))
    (subst (IsOf c.in-Ok.mount.board) (sym pass_back) of))

pub close-requires-2-clause-still : goal.close-requires-2-clause-still
close-requires-2-clause-still g c =
    let split : IsSplit c.in-Ok.pass c.split_pass.new.pass c.expect-other.result = at_ok c.split_pass.result c.expect-other.result (IsSplit c.in-Ok.pass c.split_pass.new.pass) c.expect-other.ensures c.split_pass.ensures.made in
    let pass_back : c.in-Err-close.pass ≡ c.split_pass.new.pass = c.in-Err-close.ensures.pass_back in
    c.bare_is_still-3.ensures (taken_now c.join_pass.ensures.taken (ap (λ (p : PassState). p.now) pass_back ∙ split_now split c.in-Ok.ensures.nothing))
