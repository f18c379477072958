-- Copied bytes: what a read has in front of its list, from page to page.
use Rattle.std.proofs.Common.{◌≡◌, ℕ, zero, suc, ◌+◌, ◌-◌, ◌%◌, ◌<◌, ◌≤◌, List, ◌++◌, length, take, drop, sym, ap, subst, ◌∙◌, arith, append_assoc, length-append}
use Rattle.std.proofs.Math.Seq.{take-append_seam}
use Rattle.std.proofs.lemmas.List.{length-take}
use Rattle.nv_plain.specs.Files.{bytes_at}
use Rattle.nv_plain.specs.Pieces.{pages_touched, piece_of}
use Rattle.nv_plain.specs.declared.call.FileCall.{FileCall}
use Rattle.nv_pmem.proofs.Ranges.{flat_map-more, flat_map-same}
use Rattle.nv_core.specs.state.Words.{Sizes}
use Rattle.nv_core.specs.state.Passes.{first_page, end_read, at_of, covered}
use Rattle.nv_core.specs.steps.Order.{Values, page_bytes}
use Rattle.nv_core.proofs.crash.CrashPieces.{piece_next}
use Rattle.nv_mirror.specs.Visits.{front, page_piece, HasCopied}

pub some_bytes : (at len page : ℕ) → 0 < pages_touched at len page → 0 < len
some_bytes at zero page some = absurd (omega (arith, some))
some_bytes at (suc len) page some = omega arith

-- what a read has of some pages is the same where it has the same of each
pub front_same : (sizes : Sizes) (values other : Values) (call : FileCall) (len : ℕ) (fetched fetched_other : List (ℕ × List ℕ)) (count : ℕ)
    → ((page : ℕ) → first_page sizes call ≤ page → page < first_page sizes call + count → page_bytes fetched_other other page ≡ page_bytes fetched values page)
    → front sizes other call len fetched_other count ≡ front sizes values call len fetched count
front_same sizes values other call len fetched fetched_other count same =
    flat_map-same _ _ 0 count
    (λ k from below. let piece = piece_of (at_of call) (covered call len) sizes.page k in ap (λ bytes. bytes_at bytes (piece.at % sizes.page) piece.size) (same (first_page sizes call + k) (omega arith) (omega (arith, below))))

pub copied_same : (sizes : Sizes) (call : FileCall) (len : ℕ) (list : List ℕ) (copied : ℕ) (values other : Values) (fetched fetched_other : List (ℕ × List ℕ)) (page : ℕ)
    → ((p : ℕ) → first_page sizes call ≤ p → p < page → page_bytes fetched_other other p ≡ page_bytes fetched values p)
    → HasCopied sizes call len list copied values fetched page → HasCopied sizes call len list copied other fetched_other page
copied_same sizes call len list copied values other fetched fetched_other page same has =
    record { from = has.from; till = has.till; rest = has.rest; list_is = has.list_is ∙ ap (λ f. f ++ has.rest) (sym fronts); count = has.count ∙ ap length (sym fronts) }
  where
    fronts : front sizes other call len fetched_other (page - first_page sizes call) ≡ front sizes values call len fetched (page - first_page sizes call)
    fronts = front_same sizes values other call len fetched fetched_other (page - first_page sizes call) (λ p low high. same p low (omega (arith, high, has.from)))

module _ (sizes : Sizes) (values : Values) (call : FileCall) (len : ℕ) (fetched : List (ℕ × List ℕ)) (some : 1 ≤ sizes.page) where
  -- the bytes of one page more
  front_more : (count : ℕ)
      → front sizes values call len fetched (count + 1)
      ≡ front sizes values call len fetched count ++ bytes_at (page_bytes fetched values (first_page sizes call + count)) ((piece_of (at_of call) (covered call len) sizes.page count).at % sizes.page) (piece_of (at_of call) (covered call len) sizes.page count).size
  front_more count = flat_map-more (λ i. bytes_at (page_bytes fetched values (first_page sizes call + i)) ((piece_of (at_of call) (covered call len) sizes.page i).at % sizes.page) (piece_of (at_of call) (covered call len) sizes.page i).size) 0 count
      ∙ ap (λ n. front sizes values call len fetched count ++ bytes_at (page_bytes fetched values (first_page sizes call + n)) ((piece_of (at_of call) (covered call len) sizes.page n).at % sizes.page) (piece_of (at_of call) (covered call len) sizes.page n).size) zero_first
    where
      zero_first : 0 + count ≡ count
      zero_first = omega arith

  -- no more than the bytes of the reply that lie before the next page
  front_most : (count : ℕ) → count < pages_touched (at_of call) (covered call len) sizes.page → length (front sizes values call len fetched count) ≤ (piece_of (at_of call) (covered call len) sizes.page count).from
  front_most zero less = omega arith
  front_most (suc count) less =
      let before = front_most count (omega (arith, less)) in
      let bytes = bytes_at (page_bytes fetched values (first_page sizes call + count)) ((piece_of (at_of call) (covered call len) sizes.page count).at % sizes.page) (piece_of (at_of call) (covered call len) sizes.page count).size in
      let one : suc count ≡ count + 1 = omega arith in
      let more = ap length (front_more count) ∙ length-append (front sizes values call len fetched count) bytes in
      let few = length-take (piece_of (at_of call) (covered call len) sizes.page count).size (drop ((piece_of (at_of call) (covered call len) sizes.page count).at % sizes.page) (page_bytes fetched values (first_page sizes call + count))) in
      let next = piece_next (at_of call) (covered call len) sizes.page some (some_bytes (at_of call) (covered call len) sizes.page (omega (arith, less))) count (omega (arith, less)) in
      subst (λ n. length (front sizes values call len fetched n) ≤ (piece_of (at_of call) (covered call len) sizes.page n).from) (sym one) (omega (arith, before, more, few, next))

module _ (sizes : Sizes) (call : FileCall) (len : ℕ) (list : List ℕ) (copied : ℕ) (values : Values) (fetched : List (ℕ × List ℕ)) (page : ℕ) (some : 1 ≤ sizes.page) (more : page < end_read sizes call len)
    (has : HasCopied sizes call len list copied values fetched page) where
  -- there is room for the page's bytes behind them
  pub copied_most : copied ≤ (page_piece sizes call len page).from
  copied_most =
      let from = has.from in
      let most = front_most sizes values call len fetched some (page - first_page sizes call) (omega (arith, more, from)) in
      let count = has.count in
      omega (arith, most, count)

  -- where they come in front, so do those of all pages up to this one
  pub copied_more : (bytes then list_then : List ℕ) (count : ℕ) → bytes ≡ bytes_at (page_bytes fetched values page) ((page_piece sizes call len page).at % sizes.page) (page_piece sizes call len page).size
      → count ≡ length bytes → list_then ≡ take copied list ++ (bytes ++ then) → HasCopied sizes call len list_then (copied + count) values fetched (page + 1)
  copied_more bytes then list_then count bytes_are counts list_is = record {
    from = let low = has.from in omega (arith, low);
    till = omega (arith, more);
    rest = then;
    list_is = list_is ∙ ap (λ f. f ++ (bytes ++ then)) front_is ∙ sym (append_assoc fronts bytes then) ∙ ap (λ f. f ++ then) (sym fronts_then);
    count = ap (λ n. n + count) has.count ∙ ap (λ n. length fronts + n) counts ∙ sym (length-append fronts bytes) ∙ ap length (sym fronts_then);
  }
    where
      fronts : List ℕ
      fronts = front sizes values call len fetched (page - first_page sizes call)

      front_is : take copied list ≡ fronts
      front_is = ap (λ n. take n list) has.count ∙ ap (take (length fronts)) has.list_is ∙ take-append_seam fronts has.rest

      index_is : first_page sizes call + (page - first_page sizes call) ≡ page
      index_is = let low = has.from in omega (arith, low)

      next_is : page - first_page sizes call + 1 ≡ page + 1 - first_page sizes call
      next_is = let low = has.from in omega (arith, low)

      fronts_then : front sizes values call len fetched (page + 1 - first_page sizes call) ≡ fronts ++ bytes
      fronts_then =
          ap (front sizes values call len fetched) (sym next_is)
          ∙ front_more sizes values call len fetched some (page - first_page sizes call)
          ∙ ap (λ p. fronts ++ bytes_at (page_bytes fetched values p) ((page_piece sizes call len page).at % sizes.page) (page_piece sizes call len page).size) index_is
          ∙ ap (λ b. fronts ++ b) (sym bytes_are)
