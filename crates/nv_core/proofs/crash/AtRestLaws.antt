-- A mount over a region at rest opens its log and its region.
use Rattle.std.proofs.Common.{◌≡◌, ℕ, ◌+◌, ◌==◌, if◌then◌else◌, List, [], refl, sym, ap, subst, ◌∙◌, arith}
use Rattle.std.specs.Prelude.{slice_index_or}
use Rattle.std.proofs.lemmas.Bool.{eqb-true}
use Rattle.nv_plain.specs.Images.{Image, PartImage}
use Rattle.nv_plain.specs.Layouts.{mount_layout}
use Rattle.nv_pmem.specs.Limits.{IsPageSize}
use Rattle.nv_pmem.specs.Part.{Part}
use Rattle.nv_pmem.specs.Images.{IsPartImage, InEachPartImage}
use Rattle.nv_pmem.specs.Laws.{LoadsAreAnImage}
use Rattle.nv_pmem.specs.Rows.{row_words, IsRowImage}
use Rattle.nv_header.specs.Heads.{header_image}
use Rattle.nv_header.specs.Regions.{ReadsAs, IsAtRest}
use Rattle.nv_core.specs.state.Words.{HEADER}
use Rattle.nv_core.specs.steps.Opening.{Mount}
use Rattle.nv_core.specs.log.Written.{IsPart, CommitsNone}
use Rattle.nv_core.specs.crash.RegionsAtRest.{KeepRow, RegionsAtRestOpen}
use Rattle.nv_core.proofs.state.Changes.{number_self}
use Rattle.nv_core.proofs.state.Choices.{if_both, when_true}
use Rattle.nv_core.proofs.log.ImageLaws.{part_one}
use Rattle.nv_core.proofs.crash.CrashRegions.{reads_alike}

module _ (loads : LoadsAreAnImage) (mount : Mount) (names : List (List ℕ)) (parts : List Part) (rest : IsAtRest mount_layout mount.sizes.page mount.sizes.entries names mount.next parts) (row : KeepRow mount.sizes mount.values parts) where
  reads : ReadsAs mount_layout mount.sizes.page mount.sizes.entries names mount.next (row_words parts)
  reads = (rest.empty (row_words parts) record { each = λ i. loads (slice_index_or parts i []) }).header

  page : IsPageSize mount.sizes.page
  page = subst IsPageSize reads.page_is reads.readable.fields.page

  -- what loads give of the other parts, and some image of one
  one_else : (at : ℕ) (image : PartImage) → Image
  one_else at image i = if i == at then image else row_words parts i

  one_else_is : (at : ℕ) (image : PartImage) → IsPartImage (slice_index_or parts at []) image → IsRowImage parts (one_else at image)
  unfolding one_else
  one_else_is at image is = record {
    each = λ i. if_both (IsPartImage (slice_index_or parts i [])) (i == at) image (row_words parts i)
        (λ e. subst (λ k. IsPartImage (slice_index_or parts k []) image) (sym (eqb-true i at e)) is) (λ e. loads (slice_index_or parts i []));
  }

  one_here : (at : ℕ) (image : PartImage) → one_else at image at ≡ image
  unfolding one_else
  one_here at image = when_true (at == at) image (row_words parts at) (number_self at)

  stale : (slot : ℕ) → InEachPartImage (CommitsNone mount.sizes mount.next slot) (slice_index_or parts (1 + slot) [])
  stale slot image is number slots low commit =
      (rest.empty (one_else (1 + slot) image) (one_else_is (1 + slot) image is)).log.uncommitted number low
      (ap (λ k. one_else (1 + slot) image (1 + k) 0 0) slots ∙ ap (λ p. p 0 0) (one_here (1 + slot) image) ∙ commit)

  told : (part : Part) → IsPart (mount.values HEADER) part → ReadsAs mount_layout mount.sizes.page mount.sizes.entries names mount.next (header_image part)
  told part is = subst (λ p. ReadsAs mount_layout mount.sizes.page mount.sizes.entries names mount.next (header_image p)) (part_one (mount.values HEADER) (slice_index_or parts 0 []) part row.header is)
      (reads_alike mount.sizes names mount.next (header_image (slice_index_or parts 0 [])) (row_words parts) (λ line word. refl) reads)

pub regions_at_rest_open : LoadsAreAnImage → RegionsAtRestOpen
regions_at_rest_open loads mount names parts rest row files pages quiet = (
  record {
    page = page loads mount names parts rest row;
    low = omega arith;
    header = record { part = slice_index_or parts 0 []; is = row.header; quiet = rest.quiet.each 0; long = row.header_lines; tail_is = (reads loads mount names parts rest row).tail_is };
    blank = λ slot less. record {
      part = slice_index_or parts (1 + slot) [];
      is = row.entries slot less;
      lines = row.lines slot less;
      quiet = rest.quiet.each (1 + slot);
      stale = stale loads mount names parts rest row slot;
    };
  },
  record { header = told loads mount names parts rest row; files = files; pages = pages; quiet = quiet },
)
