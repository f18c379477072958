-- What a region with an empty log stands for.
use Rattle.std.proofs.Common.{◌≡◌, ◌≢◌, inl, inr, ℕ, ◌+◌, ◌%◌, ◌≤◌, ◌==◌, List, [], zero, suc, refl, sym, ap, ◌∙◌, arith}
use Rattle.std.proofs.lemmas.Bool.{eq-eqb, ne_eqb}
use Rattle.std.specs.List.{filter, flat_map, fold, range_with_len}
use Rattle.nv_plain.specs.Images.{Image, header_of, entry_of, entry_at}
use Rattle.nv_plain.specs.Layouts.{Layout}
use Rattle.nv_plain.specs.Recovered.{Recovered, committed, group_numbers, next_after, with_entry}
use Rattle.nv_header.specs.Laws.{StandsForItsStores, EmptyLogRecoversNothing}
use Rattle.nv_header.specs.Regions.{HasEmptyLog}

-- no number passes a test that none of a range passes
filter_none : (test : ℕ → ℕ) (from count : ℕ) → ((number : ℕ) → from ≤ number → test number ≢ number + 1) → filter (λ number. test number == number + 1) (range_with_len from count) ≡ []
filter_none test from zero none = refl
filter_none test from (suc count) none =
    rw (ne_eqb (test from) (from + 1) (none from (omega arith))) (filter_none test (from + 1) count (λ number above. none number (omega arith)))

none_committed : (layout : Layout) (page entries : ℕ) (names : List (List ℕ)) (next : ℕ) (image : Image) → HasEmptyLog layout page entries names next image → committed image ≡ []
none_committed layout page entries names next image log =
    filter_none (λ number. (entry_at image number).commit) (header_of image).tail (header_of image).entries
    (λ number from commit. log.log.uncommitted number (omega (arith, log.header.tail_is))
    (ap (λ count. (entry_of (image (1 + number % count))).commit) (sym log.header.entries_is) ∙ commit))

pub empty_log_recovers_nothing : EmptyLogRecoversNothing
empty_log_recovers_nothing layout page entries names next image stores log =
    let With : List ℕ → Recovered = λ groups. record {
      first = (header_of image).tail;
      groups = groups;
      next = next_after image groups;
      files = fold (with_entry image) stores (flat_map (group_numbers image) groups);
    } in
    let From : ℕ → Recovered = λ number. record { first = number; groups = []; next = number; files = stores } in
    ap With (none_committed layout page entries names next image log) ∙ ap From log.header.tail_is

pub stands_for_its_stores : StandsForItsStores
stands_for_its_stores layout page entries names next image stores (inl blank) = rw (eq-eqb (header_of image).magic 0 blank) refl
stands_for_its_stores layout page entries names next image stores (inr log) =
    let formatted : (header_of image).magic ≢ 0 = omega (arith, log.header.readable.fields.magic) in
    rw (ne_eqb (header_of image).magic 0 formatted) (ap (λ r. r.files) (empty_log_recovers_nothing layout page entries names next image stores log))
