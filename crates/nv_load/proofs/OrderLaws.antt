-- The file after calls that keep the order of threads and rounds: it is the same in each such order.
use Rattle.std.proofs.Common.{◌≡◌, ℕ, ◌+◌, ◌*◌, ◌/◌, ◌%◌, ◌<◌, ◌≤◌, List, [], ◌∷◌, length, map, replicate, get_or, inl, inr, refl, sym, ap, subst, ◌∙◌, arith}
use Rattle.std.specs.Prelude.{◌⊎◌, All}
use Rattle.std.specs.List.Sorted.{IsStrictlyIncreasing}
use Rattle.std.proofs.lemmas.Bool.{cases_eq, cases_lt}
use Rattle.std.proofs.lemmas.List.{ext_get_or, get_or-map, get_or_default, length-map}
use Rattle.std.proofs.lemmas.List.Kept.{AllPairs-from_increasing}
use Rattle.std.proofs.lemmas.Nat.{mod_below}
use Rattle.std.proofs.Math.Nat.{add-mul-mod_self_left, div-add-mod, div-lt_iff_lt-mul}
use Rattle.nv_core.specs.state.Passes.{IsOneOf}
use Rattle.nv_trace.specs.declared.trace_call.TraceCall.{TraceCall}
use Rattle.nv_trace.specs.declared.trace_call.TraceCall.TheVariants.{Pread}
use Rattle.nv_trace.specs.declared.trace_call.TracedCall.{TracedCall}
use Rattle.nv_runner.specs.Histories.{ComesBefore, KeepOrder}
use Rattle.nv_runner.proofs.histories.HistoryMembers.{contained, of_one}
use Rattle.nv_load.specs.Generated.{fill}
use Rattle.nv_load.specs.Summaries.{after_call, after_calls}
use Rattle.nv_load.proofs.FillLaws.{IsInBlock, filled_here, filled_long, filled_there, same_filling, with_block}
use Rattle.nv_load.proofs.ShapeLaws.{FillsBlock, HasShape, IsByOwner, IsOwnBlock, IsReadIn}

-- ---- one call

pub after_read : (call : TracedCall) (bytes : List ℕ) → IsReadIn call → after_call call.call bytes ≡ bytes
after_read call bytes is = ap (λ (c : TraceCall). after_call c bytes) is.is

pub after_fill : {threads block : ℕ} (call : TracedCall) (bytes : List ℕ) (is : FillsBlock threads block call) → after_call call.call bytes ≡ with_block bytes block is.byte
after_fill call bytes is = ap (λ (c : TraceCall). after_call c bytes) is.is

-- a fill is of one block, and a read is none

pub same_block : {threads one other : ℕ} (call : TracedCall) → FillsBlock threads one call → FillsBlock threads other call → one ≡ other
same_block {threads} {one} {other} call is also =
    let same : 96 * one ≡ 96 * other = at_same (sym is.is ∙ also.is) in
    omega (arith, same)
  where
    at_same : fill one is.byte ≡ fill other also.byte → 96 * one ≡ 96 * other
    at_same same = cc

pub no_fill : {threads block : ℕ} (call : TracedCall) → IsReadIn call → FillsBlock threads block call → ⊥
no_fill {threads} {block} call is also = differ block also.byte (sym is.is ∙ also.is)
  where
    differ : (block byte : ℕ) → Pread 0 is.at is.len ≡ fill block byte → ⊥
    differ block byte same = cc

-- ---- the last fill of a block

-- One of some calls is the last that fills a block, and its byte is there.
pub record IsLast (threads block : ℕ) (calls : List TracedCall) (bytes : List ℕ) : Type 0 where
  pub call : TracedCall
  pub one : IsOneOf calls call
  pub fills : FillsBlock threads block call
  pub bytes_are : (place : ℕ) → IsInBlock block place → get_or (after_calls calls bytes) place 0 ≡ fills.byte
  pub last : (other : TracedCall) → IsOneOf calls other → FillsBlock threads block other → ComesBefore call other → ⊥

-- None fills it, and it is as it was.
pub record IsUnfilled (threads block : ℕ) (calls : List TracedCall) (bytes : List ℕ) : Type 0 where
  pub none : (other : TracedCall) → IsOneOf calls other → FillsBlock threads block other → ⊥
  pub bytes_are : (place : ℕ) → IsInBlock block place → get_or (after_calls calls bytes) place 0 ≡ get_or bytes place 0

not_before_itself : (call other : TracedCall) → other ≡ call → ComesBefore call other → ⊥
not_before_itself call other same (inl before) = let round = ap (λ (c : TracedCall). c.round) same in absurd (omega (arith, before, round))
not_before_itself call other same (inr before) = let line = ap (λ (c : TracedCall). c.line) same in absurd (omega (arith, before.1, line))

-- a call that leaves the block, before some that do what they do
unfilled_by : (threads block : ℕ) (call : TracedCall) (calls : List TracedCall) (bytes : List ℕ) → (FillsBlock threads block call → ⊥)
    → ((place : ℕ) → IsInBlock block place → get_or (after_call call.call bytes) place 0 ≡ get_or bytes place 0)
    → IsUnfilled threads block calls (after_call call.call bytes) → IsUnfilled threads block (call ∷ calls) bytes
unfilled_by threads block call calls bytes other_block same is = record {
  none = λ other there fills. elim there [
    | inl first ↦ other_block (subst (FillsBlock threads block) first fills)
    | inr later ↦ is.none other later fills
  ];
  bytes_are = λ place inside. is.bytes_are place inside ∙ same place inside;
}

-- a fill of the block, before some that leave it
last_here : (threads block : ℕ) (call : TracedCall) (calls : List TracedCall) (bytes : List ℕ) → FillsBlock threads block call → IsUnfilled threads block calls (after_call call.call bytes)
    → IsLast threads block (call ∷ calls) bytes
last_here threads block call calls bytes fills is = record {
  call = call;
  one = inl refl;
  fills = fills;
  bytes_are = λ place inside. is.bytes_are place inside ∙ ap (λ b. get_or b place 0) (after_fill call bytes fills) ∙ filled_here bytes block fills.byte place inside;
  last = λ other there also. elim there [
    | inl first ↦ not_before_itself call other first
    | inr later ↦ absurd (is.none other later also)
  ];
}

last_later : (threads block : ℕ) (call : TracedCall) (calls : List TracedCall) (bytes : List ℕ) → All (λ other. ComesBefore other call → ⊥) calls
    → IsLast threads block calls (after_call call.call bytes) → IsLast threads block (call ∷ calls) bytes
last_later threads block call calls bytes keeps is = record {
  call = is.call;
  one = inr is.one;
  fills = is.fills;
  bytes_are = is.bytes_are;
  last = λ other there also before. elim there [
    | inl first ↦ of_one (λ (o : TracedCall). ComesBefore o call → ⊥) calls is.call keeps is.one (subst (ComesBefore is.call) first before)
    | inr later ↦ is.last other later also before
  ];
}

pub last_of : (threads block : ℕ) (calls : List TracedCall) (bytes : List ℕ) → ((call : TracedCall) → IsOneOf calls call → HasShape threads call) → KeepOrder calls
    → IsLast threads block calls bytes ⊎ IsUnfilled threads block calls bytes
last_of threads block [] bytes shaped keeps = inr record { none = λ other there. absurd there; bytes_are = λ place inside. refl }
last_of threads block (call ∷ calls) bytes shaped keeps =
    elim (last_of threads block calls (after_call call.call bytes) (λ other there. shaped other (inr there)) keeps.1) [
      | inl is ↦ inl (last_later threads block call calls bytes keeps.0 is)
      | inr is ↦ elim (shaped call (inl refl)) [
        | inl read ↦ inr (unfilled_by threads block call calls bytes (no_fill call read) (λ place inside. ap (λ b. get_or b place 0) (after_read call bytes read)) is)
        | inr fills ↦ elim (cases_eq fills.block block) [
          | inl same ↦ inl (last_here threads block call calls bytes (subst (λ b. FillsBlock threads b call) same fills.fills) is)
          | inr differ ↦ inr (unfilled_by threads block call calls bytes (λ also. differ (same_block call fills.fills also))
              (λ place inside. ap (λ b. get_or b place 0) (after_fill call bytes fills.fills) ∙ filled_there bytes fills.block fills.fills.byte block place inside differ) is)
        ]
      ]
    ]

-- ---- two fills of one block

quotient_none : (thread threads : ℕ) → threads * (thread / threads) + thread % threads ≡ thread → thread / threads < 1 → thread % threads ≡ thread
quotient_none thread threads all none =
    let zero_is : thread / threads ≡ 0 = omega (arith, none) in
    let gone = ap (λ n. threads * n) zero_is in
    omega (arith, all, gone)

small_rest : (thread threads : ℕ) → thread < threads → thread % threads ≡ thread
small_rest thread threads less =
    quotient_none thread threads (div-add-mod thread threads) ((div-lt_iff_lt-mul {k = threads} {x = thread} {y = 1} (omega (arith, less))).1 (omega (arith, less)))

turned : (threads thread block : ℕ) → IsOwnBlock threads thread block → block % threads ≡ thread
turned threads thread block own = ap (λ b. b % threads) own.is ∙ add-mul-mod_self_left thread threads own.turn ∙ small_rest thread threads own.less

same_thread : (threads block one other : ℕ) → IsOwnBlock threads one block → IsOwnBlock threads other block → one ≡ other
same_thread threads block one other is also = sym (turned threads one block is) ∙ turned threads other block also

-- of two fills of a block in one round the lines tell which comes first
by_lines : (one other : TracedCall) → one.thread ≡ other.thread → (ComesBefore one other → ⊥) → (ComesBefore other one → ⊥) → one.line ≡ other.line
by_lines one other thread not_one not_other = elim (cases_lt one.line other.line) [
  | inl less ↦ absurd (not_one (inr (thread, less)))
  | inr more ↦ elim (cases_lt other.line one.line) [
    | inl less ↦ absurd (not_other (inr (sym thread, less)))
    | inr same ↦ omega (arith, more, same)
  ]
]

same_line : (threads block : ℕ) (one other : TracedCall) → IsByOwner threads block one → IsByOwner threads block other → (ComesBefore one other → ⊥) → (ComesBefore other one → ⊥) → one.line ≡ other.line
same_line threads block one other (inl first) (inl also) not_one not_other = by_lines one other (first.1 ∙ sym also.1) not_one not_other
same_line threads block one other (inl first) (inr second) not_one not_other = absurd (not_one (inl (let a = first.0 in let b = second.0 in omega arith)))
same_line threads block one other (inr second) (inl first) not_one not_other = absurd (not_other (inl (let a = first.0 in let b = second.0 in omega arith)))
same_line threads block one other (inr second) (inr also) not_one not_other = by_lines one other (same_thread threads block one.thread other.thread second.1 also.1) not_one not_other

-- calls of one line are one call, where lines rise
pub one_call : (calls : List TracedCall) (one other : TracedCall) → IsStrictlyIncreasing (map (λ (c : TracedCall). c.line) calls) → IsOneOf calls one → IsOneOf calls other → one.line ≡ other.line
    → one ≡ other
one_call calls one other rise there also same =
    let at = contained calls one there in
    let and_at = contained calls other also in
    let pairs = AllPairs-from_increasing (map (λ (c : TracedCall). c.line) calls) rise in
    let many = length-map calls (λ (c : TracedCall). c.line) in
    let line_one = get_or-map (λ (c : TracedCall). c.line) calls at.0 one 0 at.1 ∙ ap (λ (c : TracedCall). c.line) at.2 in
    let line_other = get_or-map (λ (c : TracedCall). c.line) calls and_at.0 other 0 and_at.1 ∙ ap (λ (c : TracedCall). c.line) and_at.2 in
    elim (cases_lt at.0 and_at.0) [
      | inl less ↦ absurd (let up = pairs at.0 and_at.0 0 less (omega (arith, and_at.1, many)) in omega (arith, up, line_one, line_other, same))
      | inr more ↦ elim (cases_lt and_at.0 at.0) [
        | inl less ↦ absurd (let up = pairs and_at.0 at.0 0 less (omega (arith, at.1, many)) in omega (arith, up, line_one, line_other, same))
        | inr least ↦ (
            let place : at.0 ≡ and_at.0 = omega (arith, more, least) in
            sym at.2 ∙ ap (λ i. get_or calls i one) place ∙ get_or_default calls and_at.0 one other and_at.1 ∙ and_at.2
            )
      ]
    ]

-- ---- the length

-- a call leaves the file as long as it was, or makes it longer
pub filled_more : (threads : ℕ) (call : TracedCall) (bytes : List ℕ) → HasShape threads call → length bytes ≤ length (after_call call.call bytes)
filled_more threads call bytes (inl read) = let same = ap (λ (b : List ℕ). length b) (after_read call bytes read) in omega (arith, same)
filled_more threads call bytes (inr fills) =
    let same = ap (λ (b : List ℕ). length b) (after_fill call bytes fills.fills) in
    let more = filled_long bytes fills.block fills.fills.byte in
    omega (arith, same, more)

pub grows : (threads : ℕ) (calls : List TracedCall) (bytes : List ℕ) → ((call : TracedCall) → IsOneOf calls call → HasShape threads call) → length bytes ≤ length (after_calls calls bytes)
grows threads [] bytes shaped = omega arith
grows threads (call ∷ calls) bytes shaped =
    let later = grows threads calls (after_call call.call bytes) (λ other there. shaped other (inr there)) in
    let more = filled_more threads call bytes (shaped call (inl refl)) in
    omega (arith, later, more)

pub at_most : (threads : ℕ) (calls : List TracedCall) (bytes : List ℕ) → ((call : TracedCall) → IsOneOf calls call → HasShape threads call) → length bytes ≤ 6144 → length (after_calls calls bytes) ≤ 6144
at_most threads [] bytes shaped low = low
at_most threads (call ∷ calls) bytes shaped low =
    at_most threads calls (after_call call.call bytes) (λ other there. shaped other (inr there)) (elim (shaped call (inl refl)) [
      | inl read ↦ (let same = ap (λ (b : List ℕ). length b) (after_read call bytes read) in omega (arith, low, same))
      | inr fills ↦ (
          let same = ap (λ (b : List ℕ). length b) (after_fill call bytes fills.fills) in
          let more = filled_long bytes fills.block fills.fills.byte in
          omega (arith, low, same, more, fills.low)
          )
    ])

-- a fill of the last block makes the file whole
pub whole_by : {threads : ℕ} (call : TracedCall) (bytes : List ℕ) → FillsBlock threads 63 call → 6144 ≤ length (after_call call.call bytes)
whole_by call bytes fills =
    let same = ap (λ (b : List ℕ). length b) (after_fill call bytes fills) in
    let more = filled_long bytes 63 fills.byte in
    omega (arith, same, more)

whole_with : (threads : ℕ) (calls : List TracedCall) (bytes : List ℕ) (one : TracedCall) → ((call : TracedCall) → IsOneOf calls call → HasShape threads call) → IsOneOf calls one
    → FillsBlock threads 63 one → 6144 ≤ length (after_calls calls bytes)
whole_with threads [] bytes one shaped there fills = absurd there
whole_with threads (call ∷ calls) bytes one shaped (inl same) fills =
    let here = whole_by call bytes (subst (FillsBlock threads 63) same fills) in
    let later = grows threads calls (after_call call.call bytes) (λ other there. shaped other (inr there)) in
    omega (arith, here, later)
whole_with threads (call ∷ calls) bytes one shaped (inr later) fills = whole_with threads calls (after_call call.call bytes) one (λ other there. shaped other (inr there)) later fills

-- ---- one file

module _ (threads : ℕ) (calls others : List TracedCall) (to : (call : TracedCall) → IsOneOf calls call → IsOneOf others call) (back : (call : TracedCall) → IsOneOf others call → IsOneOf calls call)
    (shaped : (call : TracedCall) → IsOneOf calls call → HasShape threads call) (rise : IsStrictlyIncreasing (map (λ (c : TracedCall). c.line) calls)) (keep : KeepOrder calls) (keep_others : KeepOrder others)
    (each : (block : ℕ) → block < 64 → (call : TracedCall) × IsOneOf calls call × FillsBlock threads block call) where
  shaped_others : (call : TracedCall) → IsOneOf others call → HasShape threads call
  shaped_others call there = shaped call (back call there)

  same_in : (block place : ℕ) → block < 64 → IsInBlock block place → (bytes : List ℕ) → get_or (after_calls others bytes) place 0 ≡ get_or (after_calls calls bytes) place 0
  same_in block place low inside bytes =
      let filled = each block low in
      elim (last_of threads block calls bytes shaped keep) [
        | inr none ↦ absurd (none.none filled.0 filled.1 filled.2)
        | inl one ↦ elim (last_of threads block others bytes shaped_others keep_others) [
          | inr none ↦ absurd (none.none filled.0 (to filled.0 filled.1) filled.2)
          | inl other ↦ (
              let line = same_line threads block one.call other.call one.fills.owner other.fills.owner (one.last other.call (back other.call other.one) other.fills) (other.last one.call (to one.call one.one) one.fills) in
              let same = one_call calls one.call other.call rise one.one (back other.call other.one) line in
              let byte = byte_of one.call other.call one.fills other.fills same in
              other.bytes_are place inside ∙ sym byte ∙ sym (one.bytes_are place inside)
              )
        ]
      ]
    where
      blocks : {one other : ℕ} → fill block one ≡ fill block other → replicate {A = ℕ} 96 one ≡ replicate 96 other
      blocks same = cc

      byte_of : (one other : TracedCall) (fills : FillsBlock threads block one) (also : FillsBlock threads block other) → one ≡ other → fills.byte ≡ also.byte
      byte_of one other fills also same = same_filling fills.byte also.byte (blocks (sym fills.is ∙ ap (λ (c : TracedCall). c.call) same ∙ also.is))

  pub same_file : after_calls others [] ≡ after_calls calls []
  same_file =
      let last = each 63 (omega arith) in
      let high = at_most threads calls [] shaped (omega arith) in
      let low = whole_with threads calls [] last.0 shaped last.1 last.2 in
      let high_others = at_most threads others [] shaped_others (omega arith) in
      let low_others = whole_with threads others [] last.0 shaped_others (to last.0 last.1) last.2 in
      ext_get_or 0 (after_calls others []) (after_calls calls []) (omega (arith, high, low, high_others, low_others)) (λ place within.
      let whole = div-add-mod place 96 in
      let rest = mod_below place 96 (omega arith) in
      same_in (place / 96) place (omega (arith, within, high_others, whole)) record { low = omega (arith, whole); high = omega (arith, whole, rest) } [])
