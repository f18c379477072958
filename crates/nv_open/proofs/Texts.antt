-- Names of files are texts.
use Rattle.std.proofs.Common.{◌≡◌, ◌==◌, ◌&&◌, ℕ, ◌<◌, Bool, true, false, List, not, nat_le, length, get_or, slice_index, arith}
use Rattle.std.specs.List.{list_all}
use Rattle.std.specs.Str.{IsUtf8}
use Rattle.std.proofs.lemmas.List.Sums.{AllPass-from_list_all}
use Rattle.std.proofs.lemmas.Str.{IsUtf8-from_ascii}
use Rattle.std.proofs.lemmas.Str.Ascii.{IsAscii-from_all}
use Rattle.std.proofs.lemmas.Bool.Decides.{nat_tests}
use Rattle.nv_plain.specs.Names.{is_name, is_name_byte}

second : (a b : Bool) → (a && b) ≡ true → b ≡ true
second true b e = e
second false b e = cc

small_byte : (byte : ℕ) → is_name_byte byte ≡ true → byte < 128
small_byte byte may = grind (arith, nat_tests)

pub name_is_text : (most : ℕ) (name : List ℕ) → is_name most name ≡ true → IsUtf8 name
name_is_text most name named =
    let bytes = AllPass-from_list_all is_name_byte name
    (second (nat_le 1 (length name) && nat_le (length name) most && not (slice_index name 0 == 46)) (list_all is_name_byte name) named) in
    IsUtf8-from_ascii name (IsAscii-from_all name (λ k d inside. small_byte (get_or name k d) (bytes k d inside)))
