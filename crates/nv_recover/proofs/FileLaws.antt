-- Which files an image stands for.
use Rattle.std.proofs.Common.{◌≡◌, ℕ, Bool, if◌then◌else◌, ap, arith}
use Rattle.std.proofs.lemmas.Bool.{ne_eqb}
use Rattle.nv_plain.specs.Files.{Files}
use Rattle.nv_plain.specs.Images.{Image, header_of}
use Rattle.nv_plain.specs.Layouts.{Layout}
use Rattle.nv_plain.specs.Recovered.{recovered, region_files}
use Rattle.nv_header.specs.Heads.{IsHead}

-- one whose header can be read isn't blank
pub readable_stands : (layout : Layout) (lines : ℕ) (image : Image) (bytes : Files) → IsHead layout lines image → region_files image bytes ≡ (recovered image bytes).files
readable_stands layout lines image bytes reads =
    ap (λ (blank : Bool). if blank then bytes else (recovered image bytes).files)
    (ne_eqb (header_of image).magic 0 (λ blank. omega (arith, reads.fields.magic, blank)))
