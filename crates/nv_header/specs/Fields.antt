-- The fields of a header, as the code has them.
use Rattle.nv_plain.specs.Images.{Header, header_of}
use Rattle.nv_pmem.specs.Part.{Part}
use Rattle.nv_header.specs.declared.fields.Fields.{Fields}
use Rattle.nv_header.specs.Heads.{header_image}

-- the header that these fields are
abbrev pub header_in : Fields → Header
header_in fields = record {
  magic = fields.magic;
  version = fields.version;
  page = fields.page;
  entries = fields.entries;
  files = fields.files;
  tail = fields.tail;
}

-- the fields that a part reads as
abbrev pub fields_in : Part → Fields
fields_in now = record {
  magic = (header_of (header_image now)).magic;
  version = (header_of (header_image now)).version;
  page = (header_of (header_image now)).page;
  entries = (header_of (header_image now)).entries;
  files = (header_of (header_image now)).files;
  tail = (header_of (header_image now)).tail;
}
