-- The walks' mount opens a file and an empty log.
use Rattle.std.proofs.Common.{◌≡◌, ℕ, zero, suc, ◌+◌, ◌<◌, nat_lt, false, List, [], ◌∷◌, ◌++◌, length, replicate, slice_index_or, Option, Some, None, refl, sym, ap, subst, ◌∙◌, arith}
use Rattle.nv_plain.specs.Files.{contents_of}
use Rattle.nv_plain.specs.Layouts.{mount_layout}
use Rattle.nv_header.specs.Heads.{IsGoodName, first_names, header_image}
use Rattle.nv_header.specs.Regions.{ReadsAs}
use Rattle.nv_store.specs.Store.{Store, quiet_store, is_unsynced}
use Rattle.nv_store.specs.Store as stores
use Rattle.nv_pmem.specs.Part.{Part, blank_line, line_of, newest, word_at}
use Rattle.nv_pmem.specs.Images.{IsQuietPart, IsQuietLine, InEachPartImage}
use Rattle.nv_pmem.specs.Laws.{BlankIsZeros, BlankIsQuiet, QuietPartHasOneImage}
use Rattle.nv_core.specs.state.Words.{PAGE, STORE}
use Rattle.nv_core.specs.state.Values.{ABuffer, is_valid}
use Rattle.nv_core.specs.log.Written.{CommitsNone}
use Rattle.nv_core.specs.content.StorePages.{store_of_value}
use Rattle.nv_core.specs.walks.Walks.{walk_sizes, durable_line, walk_header, walk_values}
use Rattle.nv_core.specs.walks.WalkOpens.{walk_files, WalkOpensFiles, WalkOpensLog, WalkOpensRegion}
use Rattle.nv_core.proofs.state.Choices.{if_both}

-- ---- the file

fresh : (page : ℕ) → is_valid (walk_values (PAGE page)) ≡ false
fresh page = if_both (λ b. is_valid (ABuffer b) ≡ false) (nat_lt page 4) (Some record { bytes = []; valid = false }) None (λ _. refl) (λ _. refl)

tells : (file : ℕ) → file < 1 → (store : Store) × (store_of_value (walk_values (STORE file)) ≡ Some store)
tells zero low = (quiet_store (replicate 128 97), refl)
tells (suc file) low = absurd (omega (arith, low))

seen : (file : ℕ) (store : Store) → store_of_value (walk_values (STORE file)) ≡ Some store → store.seen ≡ contents_of walk_files file
seen zero store told = sym (ap seen_of told)
  where
    seen_of : Option Store → List ℕ
    seen_of (Some store) = store.seen
    seen_of None = []
seen (suc file) store told = absurd (cc)

lengths : (file : ℕ) → file < 1 → 128 ≡ length (contents_of walk_files file)
lengths zero low = refl
lengths (suc file) low = absurd (omega (arith, low))

pub walk_opens_files : WalkOpensFiles
walk_opens_files = record {
  stores = record { count = refl; tell = record { each = tells }; seen = record { seen = seen } };
  lengths = lengths;
  fresh = fresh;
}

-- ---- the log

blank_each : (count line : ℕ) → line_of (replicate count blank_line) line ≡ blank_line
blank_each zero line = refl
blank_each (suc count) zero = refl
blank_each (suc count) (suc line) = blank_each count line

module _ (blank : BlankIsQuiet) where
  quiet_line : (count line : ℕ) → IsQuietLine (line_of (replicate count blank_line) line)
  quiet_line count line = subst IsQuietLine (sym (blank_each count line)) blank

  quiet_behind : (count : ℕ) (behind : Part) → ((line : ℕ) → IsQuietLine (line_of behind line)) → (line : ℕ) → IsQuietLine (line_of (replicate count blank_line ++ behind) line)
  quiet_behind zero behind each line = each line
  quiet_behind (suc count) behind each zero = blank
  quiet_behind (suc count) behind each (suc line) = quiet_behind count behind each line

  quiet : (count : ℕ) → IsQuietPart (replicate count blank_line)
  quiet count = record { lines = quiet_line count }

  header_quiet : IsQuietPart walk_header
  unfolding IsQuietLine
  header_quiet = record { lines = lines }
    where
      named : (line : ℕ) → IsQuietLine (line_of (durable_line (1 ∷ 97 ∷ 0 ∷ 0 ∷ 0 ∷ 0 ∷ 0 ∷ 0 ∷ []) ∷ replicate 255 blank_line) line)
      named zero = refl
      named (suc line) = quiet_line 255 line

      lines : (line : ℕ) → IsQuietLine (line_of walk_header line)
      lines zero = refl
      lines (suc zero) = refl
      lines (suc (suc line)) = quiet_behind 16 (durable_line (1 ∷ 97 ∷ 0 ∷ 0 ∷ 0 ∷ 0 ∷ 0 ∷ 0 ∷ []) ∷ replicate 255 blank_line) named line

  commits_none : BlankIsZeros → QuietPartHasOneImage → (slot : ℕ) → InEachPartImage (CommitsNone walk_sizes 0 slot) (replicate 2 blank_line)
  commits_none zeros one_image slot image left number at low e =
      let z : 0 ≡ number + 1 = sym (one_image (replicate 2 blank_line) image 0 0 (quiet_line 2 0) left ∙ zeros (replicate 2 blank_line) 0 0 (blank_each 2 0)) ∙ e in
      omega (arith, z)

  pub walk_opens_log : BlankIsZeros → QuietPartHasOneImage → WalkOpensLog
  walk_opens_log zeros one_image = record {
    page = record { least = omega arith; most = omega arith; whole_lines = refl };
    low = omega arith;
    header = record { part = walk_header; is = refl; quiet = header_quiet; long = omega arith; tail_is = zeros walk_header 1 0 refl };
    blank = λ slot low. record { part = replicate 2 blank_line; is = refl; lines = omega arith; quiet = quiet 2; stale = commits_none zeros one_image slot };
  }

-- ---- the region

one_name : (i : ℕ) → i < 1 → IsGoodName mount_layout (header_image walk_header) i
unfolding newest word_at
one_name zero less = record { whole = refl; new = λ j below. absurd (omega (arith, below)) }
one_name (suc i) less = absurd (omega (arith, less))

told_header : (part : Part) → Some walk_header ≡ Some part → walk_header ≡ part
told_header part e = cc

header_reads : ReadsAs mount_layout 64 16 ((97 ∷ []) ∷ []) 0 (header_image walk_header)
unfolding newest word_at first_names
header_reads = record {
  readable = record {
    long_enough = omega arith;
    fields = record {
      magic = refl;
      version_is = refl;
      page = record { least = omega arith; most = omega arith; whole_lines = refl };
      entries = record { least = omega arith; most = omega arith };
      files = omega arith;
      tail = omega arith;
    };
    names = one_name;
  };
  page_is = refl;
  entries_is = refl;
  names_are = refl;
  tail_is = refl;
}

-- a list of equal flags has none that is set
none_at : (count i : ℕ) → slice_index_or (replicate count false) i false ≡ false
none_at zero i = refl
none_at (suc count) zero = refl
none_at (suc count) (suc i) = none_at count i

quiet_stores : (file : ℕ) (store : Store) → store_of_value (walk_values (STORE file)) ≡ Some store → stores.IsQuietStore store
quiet_stores zero store told = subst stores.IsQuietStore (same store told) record { none = none; durable = refl }
  where
    same : (store : Store) → Some (quiet_store (replicate 128 97)) ≡ Some store → quiet_store (replicate 128 97) ≡ store
    same store e = cc

    none : (i : ℕ) → is_unsynced (quiet_store (replicate 128 97)) i ≡ false
    none i = none_at 128 i
quiet_stores (suc file) store told = absurd (cc)

pub walk_opens_region : WalkOpensRegion
walk_opens_region = record {
  header = λ part is. subst (λ p. ReadsAs mount_layout 64 16 ((97 ∷ []) ∷ []) 0 (header_image p)) (told_header part is) header_reads;
  files = refl;
  pages = omega arith;
  quiet = record { each = quiet_stores };
}
