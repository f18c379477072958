-- Bounding: what a head says of the log.
use Rattle.std.specs.Prelude.{◌≡◌, length}
use Rattle.nv_entry.specs.declared.bounds.Bounds.{Bounds}
use Rattle.nv_header.specs.declared.head.Head.{Head}

-- bounds that a head has
pub record HasBounds (head : Head) (bounds : Bounds) : Type 0 where
  pub version : head.version ≡ bounds.version
  pub page : head.geometry.page ≡ bounds.page
  pub entries : head.geometry.entries ≡ bounds.entries
  pub files : length head.names ≡ bounds.files
  pub tail : head.tail ≡ bounds.tail
