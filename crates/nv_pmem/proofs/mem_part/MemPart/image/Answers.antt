use Rattle.std.proofs.Common.{◌≡◌, ◌∷◌, [], sym, ap, subst}
use Rattle.nv_pmem.specs.Images.{IsPartImage, IsQuietPart}
use Rattle.nv_pmem.specs.Part.{Part, part_word}
use Rattle.nv_pmem.specs.Steps.{PartHistory}
use Rattle.nv_pmem.proofs.PickedLaws.{length-picked, picked_is_image, picked_is_quiet, quiet_spare}
use Rattle.nv_pmem.proofs.mem_part.MemPart.image.Goals as goal

-- the first of a list that isn't empty
first_of : Part → PartHistory → Part
first_of otherwise [] = otherwise
first_of otherwise (now ∷ past) = now

-- the lines are those that the picker left
left : (part lines : Part) (past rest : PartHistory) → lines ∷ past ≡ part ∷ rest → lines ≡ part
unfolding first_of
left part lines past rest same = ap (first_of part) same

pub returns-clause-image : goal.returns-clause-image
returns-clause-image c =
    let part = c.args.self.now.told.lines.items in
    let At : Part → Type 0 = λ these. IsPartImage part (part_word these) in
    subst At (sym (left _ _ _ _ c.lose_power.ensures.history)) (picked_is_image c.args.picker.now part)

pub returns-clause-quiet : goal.returns-clause-quiet
returns-clause-quiet c =
    subst IsQuietPart (sym (left _ _ _ _ c.lose_power.ensures.history)) (picked_is_quiet c.args.picker.now c.args.self.now.told.lines.items)

pub returns-clause-lines : goal.returns-clause-lines
returns-clause-lines c = rw (left _ _ _ _ c.lose_power.ensures.history) (length-picked c.args.picker.now c.args.self.now.told.lines.items)

pub returns-clause-spare : goal.returns-clause-spare
returns-clause-spare c = λ line. quiet_spare c.lose_power.new.self.lines.items line (returns-clause-quiet c)
