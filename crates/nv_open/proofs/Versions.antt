-- The version of an image, by what its header says.
use Rattle.std.proofs.Common.{◌≡◌, ◌==◌, if◌then◌else◌, ℕ, ◌≤◌, List, refl, sym, ap, ◌∙◌, subst, arith}
use Rattle.nv_plain.specs.Images.{Image, header_of, layout_in, version_in}
use Rattle.nv_plain.specs.Layouts.{Layout, layout_of}
use Rattle.nv_plain.specs.declared.limits.Version.{Version}
use Rattle.nv_plain.specs.declared.limits.Version.TheVariants.{One, Two}
use Rattle.nv_plain.proofs.OwnLayouts.{layout_is}
use Rattle.nv_header.specs.Heads.{IsHead, first_names}
use Rattle.nv_header.specs.Regions.{HasEmptyLog}
use Rattle.nv_open.specs.Unopened.{names_in}

-- no header has fewer lines than that of version 1
pub least_lines : (version : Version) → 18 ≤ (layout_of version).header_lines
least_lines One = omega arith
least_lines Two = omega arith

-- the version of a header
version_said : ℕ → Version
version_said number = if number == 2 then Two else One

said_is : (version : Version) → version_said (layout_of version).version ≡ version
unfolding version_said
said_is One = refl
said_is Two = refl

-- Where the header says a version, the image is of it.
pub version_is : (version : Version) (image : Image) → (header_of image).version ≡ (layout_of version).version → version_in image ≡ version
unfolding version_said
version_is version image says = ap version_said says ∙ said_is version

-- Images whose headers say the same version are of the same.
pub version_same : (image other : Image) → (header_of other).version ≡ (header_of image).version → version_in other ≡ version_in image
unfolding version_said
version_same image other same = ap version_said same

-- the layout of an image is that of its version
pub own_layout : (image : Image) → layout_in image ≡ layout_of (version_in image)
unfolding layout_in
own_layout image = refl

-- ---- an image with an empty log, by its own version

module _ (version : Version) (page entries : ℕ) (names : List (List ℕ)) (next : ℕ) (image : Image) (empty : HasEmptyLog (layout_of version) page entries names next image) where
  layout : layout_in image ≡ layout_of version
  layout = layout_is version image empty.header.readable.fields.version_is

  pub empty_version : version_in image ≡ version
  empty_version = version_is version image empty.header.readable.fields.version_is

  pub empty_readable : IsHead (layout_in image) (layout_in image).header_lines image
  empty_readable = subst (λ (one : Layout). IsHead one one.header_lines image) (sym layout) empty.header.readable

  pub empty_names : names_in image ≡ names
  empty_names = ap (λ (one : Layout). first_names one image (header_of image).files) layout ∙ empty.header.names_are
