-- The layout of an image, by what its header says.
use Rattle.std.proofs.Common.{◌≡◌, ◌==◌, if◌then◌else◌, ℕ, refl, ap, ◌∙◌}
use Rattle.nv_plain.specs.Images.{Image, header_of, layout_in}
use Rattle.nv_plain.specs.Layouts.{Layout, layout_of}
use Rattle.nv_plain.specs.declared.limits.Version.{Version}
use Rattle.nv_plain.specs.declared.limits.Version.TheVariants.{One, Two}

-- the layout of a header's version
layout_said : ℕ → Layout
layout_said number = layout_of (if number == 2 then Two else One)

said_is : (version : Version) → layout_said (layout_of version).version ≡ layout_of version
unfolding layout_said
said_is One = refl
said_is Two = refl

-- Where the header says a version, the layout is that version's.
pub layout_is : (version : Version) (image : Image) → (header_of image).version ≡ (layout_of version).version → layout_in image ≡ layout_of version
unfolding layout_in layout_said
layout_is version image says = ap layout_said says ∙ said_is version

-- Images whose headers say the same version have the same layout.
pub layout_same : (image other : Image) → (header_of other).version ≡ (header_of image).version → layout_in other ≡ layout_in image
unfolding layout_in layout_said
layout_same image other same = ap layout_said same
