use Rattle.std.proofs.Common.{[], map}
use Rattle.nv_pmem.specs.Rows.{row_words}
use Rattle.nv_pmem.proofs.RowLaws.{row_tells_more}
use Rattle.nv_look.specs.Listings.{IsListing}
use Rattle.nv_look.specs.Texts.{IsLookText}
use Rattle.nv_look.proofs.looking.look.Goals as goal

pub returns-clause-text : goal.returns-clause-text
returns-clause-text g c =
    row_tells_more (map g.L.Lines.history c.args.parts.now) (λ parts. IsListing (row_words parts) c.in_ok-listing.listing)
    (λ parts. IsLookText c.args.head.now (row_words parts) [] c.in_ok-show.field-0)
    (λ parts is. record { rows = c.in_ok-listing.listing; listing = is; is = c.in_ok-show.ensures }) c.in_ok-listing.ensures.listing
