-- Region texts: why a region is refused.
use Rattle.std.specs.Prelude.{ℕ, List, [], ◌∷◌, codes}
use Rattle.std.specs.Fmt.{decimal}
use Rattle.nv_header.specs.declared.head.HeadField.{HeadField}
use Rattle.nv_header.specs.declared.head.HeadField.TheVariants.{Page, Entries, Files, Tail}
use Rattle.nv_open.specs.declared.error.Refusal.{Refusal}
use Rattle.nv_open.specs.declared.error.Refusal.TheVariants.{Truncated, BadMagic, BadVersion, BadGeometry, BadName, BadEntry, TooManyFiles}
use Rattle.nv_trace.specs.Report.{spaced}

abbrev pub field_text : HeadField → List ℕ
field_text Page = codes "page"
field_text Entries = codes "entries"
field_text Files = codes "files"
field_text Tail = codes "tail"

abbrev pub region_text : Refusal → List ℕ
region_text (Truncated found wanted) = spaced (codes "truncated" ∷ decimal found ∷ decimal wanted ∷ [])
region_text BadMagic = codes "bad magic"
region_text (BadVersion found) = spaced (codes "bad" ∷ codes "version" ∷ decimal found ∷ [])
region_text (BadGeometry field found) = spaced (codes "bad" ∷ codes "geometry" ∷ field_text field ∷ decimal found ∷ [])
region_text (BadName i) = spaced (codes "bad" ∷ codes "name" ∷ decimal i ∷ [])
region_text (BadEntry number) = spaced (codes "bad" ∷ codes "entry" ∷ decimal number ∷ [])
region_text TooManyFiles = codes "too many files"
