-- Cuts: how the armings of tokens add up, and how many there are.
use Rattle.std.proofs.Common.{◌≡◌, ◌+◌, ◌-◌, ◌^◌, ◌≤◌, Bool, true, false, List, [], ◌∷◌, ◌++◌, length, refl, sym, ap, subst, ◌∙◌, arith, length-append}
use Rattle.std.specs.Prelude.{All, OnErr, Result, Ok, Err, is_err}
use Rattle.std.proofs.Math.Seq.{get_or-append_seam}
use Rattle.std.proofs.lemmas.Bool.{true≢false}
use Rattle.std.proofs.lemmas.List.{append-nil}
use Rattle.std.proofs.lemmas.List.Elements.{All-get_or}
use Rattle.nv_bench.specs.Benches.{BenchState, armed_with}
use Rattle.nv_schedule.specs.Cuts.{CutTells, IsArmedOnly, IsCutBy, IsCutBySome, armed_by, cut_behind, cuts_of}
use Rattle.nv_trace.specs.declared.token.Token.{Token}
use Rattle.nv_trace.specs.declared.token.Token.TheVariants.{Advance, Cut}

-- those of some tokens, and then of others
pub cut_on : (before more : List Token) (old middle new : BenchState) → IsCutBy before old middle → IsCutBy more middle new → IsCutBy (before ++ more) old new
cut_on [] more old middle new one other = other ∙ ap (armed_by (cuts_of more)) one
cut_on (Cut number ∷ later) more old middle new one other = cut_on later more (armed_with number old) middle new one other
cut_on (Advance turn reach ∷ later) more old middle new one other = cut_on later more old middle new one other

-- each token arms it at most once
pub few_arms : (tokens : List Token) (bench : BenchState) → (armed_by (cuts_of tokens) bench).arms ≤ bench.arms + length tokens
few_arms [] bench = omega arith
few_arms (Cut number ∷ later) bench = let more = few_arms later (armed_with number bench) in omega (arith, more)
few_arms (Advance turn reach ∷ later) bench = let more = few_arms later bench in omega (arith, more)

-- all of them
pub all_reached : (tokens : List Token) (old new : BenchState) → IsCutBy tokens old new → IsCutBySome tokens old new
all_reached tokens old new cut = record { reached = tokens; later = []; tokens_are = sym (append-nil tokens); cut = cut }

-- what is so of all elements of a list is so of one of them
pub all_at : {T : Type 0} (P : T → Type 0) (before : List T) (x : T) (later : List T) → All P (before ++ x ∷ later) → P x
all_at P before x later all =
    subst P (get_or-append_seam before x later x)
    (All-get_or P (before ++ x ∷ later) (length before) x (let both = length-append before (x ∷ later) in omega (arith, both)) all)

-- ---- before any cut

pub cut_behind_both : (cut : Bool) (before more : List Token) → cut_behind cut (before ++ more) ≡ cut_behind (cut_behind cut before) more
cut_behind_both cut [] more = refl
cut_behind_both cut (Cut number ∷ later) more = cut_behind_both true later more
cut_behind_both cut (Advance turn reach ∷ later) more = cut_behind_both cut later more

-- behind one there is one
still_cut : (tokens : List Token) → cut_behind true tokens ≡ true
still_cut [] = refl
still_cut (Cut number ∷ later) = still_cut later
still_cut (Advance turn reach ∷ later) = still_cut later

pub uncut_before : (cut : Bool) (tokens : List Token) → cut_behind cut tokens ≡ false → cut ≡ false
uncut_before false tokens uncut = refl
uncut_before true tokens uncut = absurd (true≢false (sym (still_cut tokens) ∙ uncut))

-- no cut arms nothing
pub uncut_unarmed : (cut : Bool) (tokens : List Token) (old new : BenchState) → cut_behind cut tokens ≡ false → IsCutBy tokens old new → new ≡ old
uncut_unarmed cut [] old new uncut is = is
uncut_unarmed cut (Cut number ∷ later) old new uncut is = absurd (true≢false (sym (still_cut later) ∙ uncut))
uncut_unarmed cut (Advance turn reach ∷ later) old new uncut is = uncut_unarmed cut later old new uncut is

-- since a cut it is armed
armed_since : (tokens : List Token) (bench : BenchState) → bench.settled ≡ 2 ^ 64 - 1 → (armed_by (cuts_of tokens) bench).settled ≡ 2 ^ 64 - 1
armed_since [] bench is = is
armed_since (Cut number ∷ later) bench is = armed_since later (armed_with number bench) refl
armed_since (Advance turn reach ∷ later) bench is = armed_since later bench is

settled_cut : (tokens : List Token) (bench : BenchState) → cut_behind false tokens ≡ true → (armed_by (cuts_of tokens) bench).settled ≡ 2 ^ 64 - 1
settled_cut [] bench cut = absurd (true≢false (sym cut))
settled_cut (Cut number ∷ later) bench cut = armed_since later (armed_with number bench) refl
settled_cut (Advance turn reach ∷ later) bench cut = settled_cut later bench cut

pub cut_tells : (cut : Bool) (tokens : List Token) (old new : BenchState) → cut ≡ cut_behind false tokens → IsCutBy tokens old new → CutTells cut old new
cut_tells false tokens old new same is = uncut_unarmed false tokens old new (sym same) is
cut_tells true tokens old new same is = ap (λ (bench : BenchState). bench.settled) is ∙ settled_cut tokens old (sym same)

armed_frame : (tokens : List Token) (bench : BenchState) → IsArmedOnly bench (armed_by (cuts_of tokens) bench)
armed_frame [] bench = refl
armed_frame (Cut number ∷ later) bench =
    armed_frame later (armed_with number bench)
armed_frame (Advance turn reach ∷ later) bench = armed_frame later bench

-- a cut changes nothing else
pub armed_only : (tokens : List Token) (old new : BenchState) → IsCutBy tokens old new → IsArmedOnly old new
armed_only tokens old new is = subst (IsArmedOnly old) (sym is) (armed_frame tokens old)

-- what holds where an error is answered
pub on_err : {T E : Type 0} (result : Result T E) (P : Type 0) → is_err result ≡ true → OnErr result P → P
on_err (Ok value) P err holds = absurd (true≢false (sym err))
on_err (Err error) P err holds = holds
