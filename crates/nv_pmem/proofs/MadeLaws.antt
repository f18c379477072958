-- Laws about made parts.
use Rattle.std.proofs.Common.{◌≡◌, ℕ, ◌+◌, ◌/◌, ◌<◌, List, [], ◌∷◌, ◌++◌, length, map, take, replicate, get_or, zero, suc, refl, ap, ◌∙◌, arith}
use Rattle.std.proofs.lemmas.List.{take_more, length-append, length-replicate}
use Rattle.std.specs.List.{range_with_len}
use Rattle.nv_pmem.specs.Images.{IsQuietLine, IsQuietPart}
use Rattle.nv_pmem.specs.Made.{words_in, line_in, part_in}
use Rattle.nv_pmem.specs.Part.{Part, blank_line, line_of}
use Rattle.nv_pmem.specs.Picked.{settled}
use Rattle.nv_pmem.specs.Steps.{PartHistory}
use Rattle.nv_pmem.proofs.ImageLaws.{quiet_blank}

blanks : (count i : ℕ) → get_or (replicate count blank_line) i blank_line ≡ blank_line
blanks zero i = refl
blanks (suc count) zero = refl
blanks (suc count) (suc i) = blanks count i

-- lines of zeros behind a part read as the part does
padded : (part : Part) (count i : ℕ) → get_or (part ++ replicate count blank_line) i blank_line ≡ line_of part i
padded [] count i = blanks count i
padded (line ∷ part) count zero = refl
padded (line ∷ part) count (suc i) = padded part count i

-- one line more of a part that is made longer
pub padded_more : (part : Part) (count i : ℕ) → i < count → take (i + 1) (part ++ replicate count blank_line) ≡ take i (part ++ replicate count blank_line) ++ line_of part i ∷ []
padded_more part count i inside =
    let long : length (part ++ replicate count blank_line) ≡ length part + count = length-append part (replicate count blank_line) ∙ ap (λ n. length part + n) (length-replicate count blank_line) in
    let within : i < length (part ++ replicate count blank_line) = omega arith in
    take_more (part ++ replicate count blank_line) i blank_line within ∙ ap (λ line. take i (part ++ replicate count blank_line) ++ line ∷ []) (padded part count i)

settled_quiet : (content : List ℕ) → IsQuietLine (settled content)
unfolding IsQuietLine
settled_quiet [] = refl
settled_quiet (value ∷ content) = settled_quiet content

quiet_lines : (f : ℕ → List ℕ) (places : List ℕ) (i : ℕ) → IsQuietLine (line_of (map (λ place. settled (f place)) places) i)
quiet_lines f [] i = quiet_blank
quiet_lines f (place ∷ places) zero = settled_quiet (f place)
quiet_lines f (place ∷ places) (suc i) = quiet_lines f places i

-- a part that was made of bytes is quiet
pub part_in_quiet : (bytes : List ℕ) → IsQuietPart (part_in bytes)
part_in_quiet bytes = record { lines = quiet_lines (λ line. words_in (line_in bytes line)) (range_with_len 0 (length bytes / 64)) }

-- the present state of a part that had no other
pub now_of_first : (now made : Part) (past : PartHistory) → now ∷ past ≡ made ∷ [] → now ≡ made
now_of_first now made past same = cc
