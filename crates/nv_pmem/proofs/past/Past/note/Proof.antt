-- `note` has an empty body: the reference is opened, and closed where one more state stands in front.
use Rattle.std.proofs.Common.{[], ◌∷◌, refl}
use Rattle.std.proofs.raw_atomic.Walks.{proved}
use base.Fml.{ftrue, fsep, flft}
use base.Logic.{id⊢}
use mir.MapTy.{inst_fn}
use mir.Syntax.{named, a_type}
use mir.Val.{vunit}
use types.Kit.{‵, raw, ◌⊛◌, ◌$◌, ◌∵◌, !, qed, done, move, keep, use1, split, join, fsplit3, feq_i, suffices, frame, group}
use types.Run.{enter, of_opd, unit_lit, returns}
use types.ByLocal.{alloc_all, pass_all, free_all, look_at, sets}
use denote.Exit.{yes}
use denote.Param.{param, layouts}
use denote.RattleType.{RattleType}
use denote.Ref.{MutRef, mut_vals, mut_Tells, ShrRef, shr_vals, shr_Tells}
use denote.Signature.{plain}
use denote.Steps.{opens, closes}
use denote.Triple.Walked.{Stays, walk_of, says, stay_ref, Goes-ref, stay_none_ref, Goes-none_ref, ends_at}
use Rattle.nv_pmem.specs.contracts.past.Past.{the_row}
use Rattle.nv_pmem.specs.contracts.past.Past.note as f
use Rattle.nv_pmem.proofs.past.Past.note.Statement.{statement}
use Rattle.nv_pmem.proofs.past.Past.note.Code as code

pub note_spec : {M : Type 1} → statement M
note_spec 𝓤 𝓛 𝓜 𝓡 wired T _ =
    let L : RattleType = param 0 T in
    let R = the_row L in
    let ended = f.ended T in
    let c = f.clauses T 𝓛 𝓜.mem 𝓡.returns in
    let types = layouts (a_type ∷ []) (T, tt) in
    let stayed : Stays ended.signature.params ended.kept =
    (stay_ref (0 ∷ []) tt (plain (λ _. R)), (stay_none_ref (1 ∷ []) tt (plain (λ _. L)) yes, tt)) in
    proved 𝓛 ended stayed c 𝓜 𝓡
    (Goes-ref 𝓛 3 0 tt (plain (λ _. R)), (Goes-none_ref 𝓛 3 (1 ∷ []) tt (plain (λ _. L)) yes, tt))
    (f.Key.name types) (inst_fn types code.function) (code.unfolded 𝓤 𝓛.H 𝓜 𝓡 wired (T, tt))
    (λ κs. (mut_vals, (shr_vals, tt)))
    (λ κs. (mut_Tells (named 0) κs.0 R, (shr_Tells (named 1) κs.1.0 L, tt)))
    (λ κs qs bounds a g are.
    let r = a.0 in let s = a.1.0 in let b = r.ref_ptr.0 in let o = r.ref_ptr.1 in
    let grown : R.Denot = record { marker = r.now.marker; states = s.now ∷ r.now.states } in
    let y : (walk_of 𝓛 ended stayed c).Ghost = ((κs, qs, bounds, a, (mut_vals r, (shr_vals s, tt))), g) in
    qed 𝓛 (((‵ (flft κs.0 qs.0) ⊛ ‵ (fsep (flft κs.1.0 qs.1.0) (fsep (flft κs.1.1.0 qs.1.1.0) ftrue))) ⊛ ‵ ((MutRef (named 0) κs.0 R).own_val r (mut_vals r))
    ⊛ ‵ ((ShrRef (named 1) κs.1.0 L).own_val s (shr_vals s)) ⊛ ‵ ftrue) ∷ raw ((c κs a).requires g) ∷ []) ∵
    split ! $ split ! $ move ! (2 ∷ []) $ split ! $ keep ! (0 ∷ 2 ∷ 1 ∷ 3 ∷ []) $
    enter ! _ _ _ _ _ $ alloc_all ! (λ l. pass_all ! refl ((tt, tt), ((tt, tt), tt)) $
    fsplit3 ! $ move ! (1 ∷ 2 ∷ 3 ∷ []) $ opens ! tt R {h = r.now} b o (λ us.
    sets ! (of_opd ! (unit_lit !)) refl (tt, tt) $
    move ! (1 ∷ []) $ use1 𝓛 (‵ (R.own_val grown us)) (id⊢ 𝓤 _) $ move ! (1 ∷ 0 ∷ []) $ closes ! tt R grown us b o $
    returns ! (look_at ! 0 refl) $ free_all ! refl $ move ! (3 ∷ []) $
    suffices ! _ (ends_at 𝓛 ended stayed c y vunit tt (grown, (tt, tt)) (tt, (tt, tt))) $ says ! refl $
    group ! 3 $ move ! (0 ∷ 2 ∷ []) $ join ! $ move ! (1 ∷ 2 ∷ []) $ join ! $ frame ! $ frame ! $
    feq_i ! _ (vunit ∷ []) _ refl $ done !)))
