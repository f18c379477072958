-- Limits: the sizes that a mount may have.
use Rattle.std.specs.Prelude.{◌≡◌, ◌≤◌, ◌%◌}
use Rattle.nv_plain.specs.Layouts.{mount_layout}
use Rattle.nv_core.specs.state.Words.{Sizes, page_total}

-- A page has 64 to 4,096 bytes, in whole lines of 64. There are up to 64 files, each of 1 to 1,024 pages, 2 to 1,024 entries, and no more
-- buffers than pages.
pub record MountIsWithinLimits (sizes : Sizes) : Type 0 where
  pub least_page : 64 ≤ sizes.page
  pub most_page : sizes.page ≤ 4096
  pub whole_lines : sizes.page % 64 ≡ 0
  pub most_files : sizes.files ≤ mount_layout.file_limit
  pub least_pages : 1 ≤ sizes.pages
  pub most_pages : sizes.pages ≤ mount_layout.page_limit
  pub least_entries : 2 ≤ sizes.entries
  pub most_entries : sizes.entries ≤ 1024
  pub most_buffers : sizes.buffers ≤ page_total sizes
