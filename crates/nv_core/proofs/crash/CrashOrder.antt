-- The order of writes: live pieces are the ready writes, and writes that are apart from those above them may as well come last.
use Rattle.std.proofs.Common.{◌≡◌, ℕ, zero, suc, ◌+◌, ◌-◌, ◌<◌, ◌≤◌, ◌==◌, ◌&&◌, ◌||◌, not, Bool, true, false, if◌then◌else◌, List, [], ◌∷◌, ◌++◌, length, inl, inr, refl, sym, ap, ap₂, subst, ◌∙◌, arith}
use Rattle.std.proofs.lemmas.Bool.{cases_lt, cases_eq, eqb-true, eq-eqb, ne_eqb}
use Rattle.std.proofs.lemmas.List.{append-nil}
use Rattle.nv_plain.specs.Files.{Files}
use Rattle.nv_plain.specs.declared.call.FileCall.{FileCall}
use Rattle.nv_plain.specs.Made.{after_calls}
use Rattle.nv_core.specs.state.Words.{Sizes, HEAD, TAIL, kind_of, cleaned, was_readied}
use Rattle.nv_core.specs.state.Passes.{IsAmong, is_write, first_page}
use Rattle.nv_core.specs.invariant.ControlFacts.{IsPage}
use Rattle.nv_core.specs.invariant.CleanerNumbers.{IsFreed}
use Rattle.nv_core.specs.state.Core.{Core}
use Rattle.nv_core.specs.invariant.LogWindow.{InWindow, entry_word_at}
use Rattle.nv_core.specs.log.Groups.{Log, Groups}
use Rattle.nv_core.specs.log.Pieces.{page_of_number, Pieces}
use Rattle.nv_core.specs.log.Unready.{IsUnready, Unready}
use Rattle.nv_core.specs.crash.CommutingWrites.{Commute}
use Rattle.nv_core.specs.log.LivePieces.{rising, call_if, piece_write, piece_call, is_ready, is_cleaned, is_live}
use Rattle.nv_core.specs.content.PlainLaws.{PlainLaws}
use Rattle.nv_core.proofs.crash.CommutingLaws.{IsApartFrom, after_both}
use Rattle.nv_core.proofs.state.Choices.{not_both, unless_true}
use Rattle.nv_core.proofs.log.LiveLaws.{rising_same, rising_none, rising_split, rising_apart, come_last, AllApart, pieces_after, writes_apart}
use Rattle.nv_core.proofs.state.PageLaws.{write_pages}
use Rattle.nv_core.proofs.log.KeepsLive.{after_length, and_false}

-- ---- two calls a number, of which the second ones are apart from those above

pub all_rising : (calls : List FileCall) (others : ℕ → List FileCall) (from count : ℕ) → ((n : ℕ) → from ≤ n → n < from + count → AllApart calls (others n)) → AllApart calls (rising others from count)
all_rising [] others from count apart = tt
all_rising (call ∷ calls) others from count apart =
    (rising_apart call others from count (λ n low high. (apart n low high).0), all_rising calls others from count (λ n low high. (apart n low high).1))

pub part_last : (plain : PlainLaws) (one other : ℕ → List FileCall) (from count : ℕ) → ((n m : ℕ) → from ≤ n → n < m → m < from + count → AllApart (other n) (one m)) → (files : Files)
    → after_calls (rising (λ n. one n ++ other n) from count) files ≡ after_calls (rising one from count ++ rising other from count) files
part_last plain one other from zero apart files = refl
part_last plain one other from (suc count) apart files =
    let ones = rising one (suc from) count in
    let others = rising other (suc from) count in
    let start = after_calls (one from) files in
    after_both (one from ++ other from) (rising (λ n. one n ++ other n) (suc from) count) files
    ∙ part_last plain one other (suc from) count (λ n m low less high. apart n m (omega (arith, low)) less (omega (arith, high))) (after_calls (one from ++ other from) files)
    ∙ ap (after_calls (ones ++ others)) (after_both (one from) (other from) files)
    ∙ after_both ones others (after_calls (other from) start)
    ∙ ap (after_calls others) (sym (after_both (other from) ones start)
    ∙ come_last plain (other from) ones start (all_rising (other from) one (suc from) count (λ m low high. apart from m (omega arith) (omega (arith, low)) (omega (arith, high))))
    ∙ after_both ones (other from) start)
    ∙ sym (after_both (one from ++ ones) (other from ++ others) files
    ∙ after_both (other from) others (after_calls (one from ++ ones) files)
    ∙ ap (λ f. after_calls others (after_calls (other from) f)) (after_both (one from) ones files))

pub all_if : (test : Bool) (call : FileCall) (others : List FileCall) → (test ≡ true → IsApartFrom call others) → AllApart (call_if test call) others
all_if true call others is = (is refl, tt)
all_if false call others is = tt

-- ---- which writes these are, number by number

-- those that an image has are the ready ones and others that it has
pub split_kept : (leads is_ready committed : Bool) (call : FileCall) → (leads ≡ true → is_ready ≡ true → committed ≡ true)
    → call_if (leads && committed) call ≡ call_if (leads && is_ready) call ++ call_if ((leads && committed) && not is_ready) call
split_kept false ready_ committed call is = refl
split_kept true true committed call is = ap (λ c. call_if c call) (is refl refl) ∙ ap (λ c. call ∷ call_if c call) (sym (and_false committed))
split_kept true false true call is = refl
split_kept true false false call is = refl

-- those of the others that it adds, in flight as they are
pub same_added : (leads placed is_ready committed : Bool) → (leads ≡ true → is_ready ≡ false → placed ≡ false)
    → (((leads && not placed) && (is_ready || committed)) && not is_ready) ≡ ((leads && committed) && not is_ready)
same_added leads placed true committed is = and_false ((leads && not placed) && true) ∙ sym (and_false (leads && committed))
same_added false placed false committed is = refl
same_added true placed false committed is = ap (λ b. (not b && committed) && true) (is refl refl)

-- and none is added that doesn't read as committed
pub none_added : (flies is_ready committed : Bool) → committed ≡ false → ((flies && (is_ready || committed)) && not is_ready) ≡ false
none_added flies true committed none = and_false (flies && true)
none_added flies false committed none = ap (λ b. (flies && b) && true) none ∙ ap (λ b. b && true) (and_false flies)

-- ---- live pieces, group by group

module _ (sizes : Sizes) (log : Log) (core : Core) (groups : Groups sizes core log) where
  -- the leader of the group behind one
  pub leads_next : (n : ℕ) → InWindow core n → (log.group n).first ≡ n → InWindow core (n + (log.group n).entries)
      → (log.group (n + (log.group n).entries)).first ≡ n + (log.group n).entries
  leads_next n within leads behind =
      let g = groups.each (n + (log.group n).entries) behind in
      let h = groups.each n within in
      let low = g.among.0 in let high = g.among.1 in
      elim (cases_eq (log.group (n + (log.group n).entries)).first (n + (log.group n).entries)) [
        | inl same ↦ same
        | inr ne ↦ absurd (elim (cases_lt (log.group (n + (log.group n).entries)).first n) [
          | inl below ↦
              let e : log.group n ≡ log.group (n + (log.group n).entries) = g.same n (omega (arith, below), omega (arith, high)) in
              let f : n ≡ (log.group (n + (log.group n).entries)).first = sym leads ∙ ap (λ x. x.first) e in
              omega (arith, f, below)
          | inr above ↦
              let first = (log.group (n + (log.group n).entries)).first in
              let e : log.group first ≡ log.group n = h.same first (omega (arith, leads, above), omega (arith, leads, low, ne)) in
              let some = g.drawn.some in
              let f : log.group first ≡ log.group (n + (log.group n).entries) = g.same first (omega arith, omega (arith, some)) in
              let same : log.group n ≡ log.group (n + (log.group n).entries) = sym e ∙ f in
              let s : n ≡ first = sym leads ∙ ap (λ x. x.first) same in
              let c : (log.group n).entries ≡ (log.group (n + (log.group n).entries)).entries = ap (λ x. x.entries) same in
              omega (arith, s, c, high)
        ])
      ]

  -- a leader above another one is behind its group
  pub leads_behind : (n m : ℕ) → InWindow core n → (log.group n).first ≡ n → (log.group m).first ≡ m → n < m → n + (log.group n).entries ≤ m
  leads_behind n m within leads other less = elim (cases_lt m (n + (log.group n).entries)) [
    | inr le ↦ le
    | inl inside ↦ absurd (
        let g = groups.each n within in
        let e : log.group m ≡ log.group n = g.same m (omega (arith, leads, less), omega (arith, leads, inside)) in
        let f : m ≡ n = sym other ∙ ap (λ x. x.first) e ∙ leads in omega (arith, f, less))
  ]

  -- a write is apart from a group that has no number on one of its pages
  pub group_apart : 1 ≤ sizes.page → (call : FileCall) → is_write call ≡ true → (m : ℕ) → InWindow core m → (log.group m).first ≡ m
      → ((k : ℕ) → m ≤ k → InWindow core k → IsPage sizes call (page_of_number sizes (log.group k) k) → ⊥) → Commute call (log.group m).call
  group_apart page_is call write m within leads none =
      let h = groups.each m within in
      writes_apart sizes call (log.group m).call page_is write h.drawn.write (write_pages sizes call write) (subst (λ c. 1 ≤ c) h.drawn.many h.drawn.some)
      (λ j inside on.
      let many = h.drawn.many in
      let high = h.high in
      let low = within.0 in
      let among : IsAmong (log.group m).first (log.group m).entries (m + j) = (omega (arith, leads), omega (arith, leads, inside, many)) in
      let e : log.group (m + j) ≡ log.group m = h.same (m + j) among in
      let at : page_of_number sizes (log.group (m + j)) (m + j) ≡ first_page sizes (log.group m).call + j =
      ap (λ x. page_of_number sizes x (m + j)) e ∙ ap (λ f. first_page sizes (log.group m).call + (m + j - f)) leads ∙ ap (λ k. first_page sizes (log.group m).call + k) (omega arith) in
      none (m + j) (omega arith) (omega (arith, low), omega (arith, high, leads, inside, many)) (subst (IsPage sizes call) (sym at) on))

  -- so a write whose leader isn't ready is apart from each above it
  pub unready_apart : (placed : ℕ → Bool) → Unready sizes log placed core → 1 ≤ sizes.page → (n m : ℕ) → IsUnready sizes log core n → InWindow core m → (log.group m).first ≡ m → n < m → Commute (log.group n).call (log.group m).call
  unready_apart placed unready page_is n m is within leads less =
      let behind = leads_behind n m is.within is.leads leads less in
      group_apart page_is (log.group n).call (groups.each n is.within).drawn.write m within leads (λ k low there on. unready.apart n k is there (omega (arith, behind, low)) on)

  module _ (pieces : Pieces sizes log core) (plain : PlainLaws) (page_is : 1 ≤ sizes.page) where
    abbrev pub ready_write : ℕ → List FileCall
    ready_write n = call_if ((log.group n).first == n && is_ready sizes core n) (log.group n).call

    abbrev pub live_piece : ℕ → List FileCall
    live_piece n = call_if (is_live sizes log core n) (piece_call sizes (log.group n) n)

    -- a group whose leader isn't freed
    module _ (n : ℕ) (within : InWindow core n) (leads : (log.group n).first ≡ n) (unfreed : (by : ℕ) → IsFreed (core.passes by).control n → ⊥) where
      of_group : (m : ℕ) → n ≤ m → m < n + (log.group n).entries → log.group m ≡ log.group n
      of_group m low high = (groups.each n within).same m (omega (arith, leads, low), omega (arith, leads, high))

      leader_of : (m : ℕ) → n ≤ m → m < n + (log.group n).entries → (log.group m).first ≡ n
      leader_of m low high = ap (λ g. g.first) (of_group m low high) ∙ leads

      first_alone : rising ready_write n (log.group n).entries ≡ ready_write n
      first_alone =
          let some = (groups.each n within).drawn.some in
          let e : (log.group n).entries ≡ suc ((log.group n).entries - 1) = omega (arith, some) in
          ap (rising ready_write n) e
          ∙ ap (λ r. ready_write n ++ r) (rising_none ready_write (suc n) ((log.group n).entries - 1)
          (λ m low high. let l = leader_of m (omega (arith, low)) (omega (arith, high, some)) in
          ap (λ b. call_if (b && is_ready sizes core m) (log.group m).call) (ne_eqb (log.group m).first m (λ s. omega (arith, s, l, low)))))
          ∙ append-nil (ready_write n)

      live_of : (b : Bool) → is_ready sizes core n ≡ b → (m : ℕ) → n ≤ m → m < n + (log.group n).entries → live_piece m ≡ (if b then piece_write sizes (log.group n).call (m - n) ∷ [] else [])
      live_of true e m low high =
          let g = of_group m low high in
          let kind : was_readied (entry_word_at sizes core m) ≡ true = pieces.followers n m within leads e (low, high) in
          ap₂ (λ a b. call_if (a && (b || is_cleaned sizes core m)) (piece_call sizes (log.group m) m)) kind (ap (is_ready sizes core) (leader_of m low high) ∙ e)
          ∙ ap (λ x. piece_call sizes x m ∷ []) g ∙ ap (λ f. piece_write sizes (log.group n).call (m - f) ∷ []) leads
      live_of false e m low high =
          ap₂ (λ b c. call_if (is_ready sizes core m && (b || c)) (piece_call sizes (log.group m) m)) (ap (is_ready sizes core) (leader_of m low high) ∙ e)
          (unless_true (is_cleaned sizes core m) (λ clean. elim (pieces.leaders m inside (eqb-true (kind_of (entry_word_at sizes core m)) cleaned clean)) [
            | inl kind ↦ not_both (ap (is_ready sizes core) (sym (leader_of m low high)) ∙ kind) e
            | inr freed ↦ unfreed freed.0 (subst (IsFreed (core.passes freed.0).control) (leader_of m low high) freed.1)
          ]))
          ∙ ap (λ b. call_if b (piece_call sizes (log.group m) m)) (and_false (is_ready sizes core m))
        where
          inside : InWindow core m
          inside = let h = (groups.each n within).high in let l = within.0 in (omega (arith, l, low), omega (arith, h, high, leads))

      group_live : (files : Files) → length files.contents ≡ sizes.files → after_calls (rising live_piece n (log.group n).entries) files ≡ after_calls (rising ready_write n (log.group n).entries) files
      group_live files long = go (is_ready sizes core n) refl
        where
          go : (b : Bool) → is_ready sizes core n ≡ b → after_calls (rising live_piece n (log.group n).entries) files ≡ after_calls (rising ready_write n (log.group n).entries) files
          go true e =
              let g = groups.each n within in
              ap (λ c. after_calls c files) (rising_same live_piece (λ m. piece_write sizes (log.group n).call (m - n) ∷ []) n (log.group n).entries (live_of true e))
              ∙ ap (λ k. after_calls (rising (λ m. piece_write sizes (log.group n).call (m - n) ∷ []) n k) files) g.drawn.many
              ∙ pieces_after plain.pieces sizes (log.group n).call n files page_is g.drawn.write (let k = g.allowed.known in omega (arith, k, long))
              ∙ sym (ap (λ c. after_calls c files) (first_alone ∙ ap₂ (λ a b. call_if (a && b) (log.group n).call) (eq-eqb (log.group n).first n leads) e))
          go false e =
              ap (λ c. after_calls c files) (rising_none live_piece n (log.group n).entries (live_of false e))
              ∙ sym (ap (λ c. after_calls c files) (first_alone ∙ ap (λ b. call_if ((log.group n).first == n && b) (log.group n).call) e ∙ ap (λ b. call_if b (log.group n).call) (and_false ((log.group n).first == n))))

    walk : (fuel from : ℕ) → core.words HEAD ≤ from + fuel → core.words TAIL ≤ from → ((n by : ℕ) → from ≤ n → IsFreed (core.passes by).control n → ⊥) → (from < core.words HEAD → (log.group from).first ≡ from) → (files : Files) → length files.contents ≡ sizes.files
        → after_calls (rising live_piece from (core.words HEAD - from)) files ≡ after_calls (rising ready_write from (core.words HEAD - from)) files
    walk zero from enough low unfreed leads files long =
        let none : core.words HEAD - from ≡ 0 = omega (arith, enough) in
        ap (λ c. after_calls (rising live_piece from c) files) none ∙ sym (ap (λ c. after_calls (rising ready_write from c) files) none)
    walk (suc fuel) from enough low unfreed leads files long = elim (cases_lt from (core.words HEAD)) [
      | inr past ↦
          let none : core.words HEAD - from ≡ 0 = omega (arith, past) in
          ap (λ c. after_calls (rising live_piece from c) files) none ∙ sym (ap (λ c. after_calls (rising ready_write from c) files) none)
      | inl less ↦
          let within : InWindow core from = (low, less) in
          let g = groups.each from within in
          let some = g.drawn.some in
          let high = g.high in
          let is = leads less in
          let k = (log.group from).entries in
          let rest = core.words HEAD - (from + k) in
          let all : core.words HEAD - from ≡ k + rest = omega (arith, high, is) in
          let live_ = ap (rising live_piece from) all ∙ rising_split live_piece from k rest in
          let ready_ = ap (rising ready_write from) all ∙ rising_split ready_write from k rest in
          ap (λ c. after_calls c files) live_
          ∙ after_both (rising live_piece from k) (rising live_piece (from + k) rest) files
          ∙ ap (after_calls (rising live_piece (from + k) rest)) (group_live from within is (λ by. unfreed from by (omega arith)) files long)
          ∙ walk fuel (from + k) (omega (arith, enough, some)) (omega (arith, low)) (λ n by more. unfreed n by (omega (arith, more))) (λ more. leads_next from within is (omega (arith, low), more)) (after_calls (rising ready_write from k) files) (after_length (rising ready_write from k) files ∙ long)
          ∙ sym (ap (λ c. after_calls c files) ready_ ∙ after_both (rising ready_write from k) (rising ready_write (from + k) rest) files)
    ]

    -- from a leader's number on, behind all that is freed
    pub live_are_ready : (from : ℕ) → core.words TAIL ≤ from → (from < core.words HEAD → (log.group from).first ≡ from) → ((n by : ℕ) → from ≤ n → IsFreed (core.passes by).control n → ⊥)
        → (files : Files) → length files.contents ≡ sizes.files
        → after_calls (rising live_piece from (core.words HEAD - from)) files ≡ after_calls (rising ready_write from (core.words HEAD - from)) files
    live_are_ready from low leads unfreed files long = walk (core.words HEAD) from (omega arith) low unfreed leads files long
