use Rattle.std.proofs.Common.{inl, inr}
use Rattle.nv_plain.proofs.FileLemmas.{length-overwritten, get_or-overwritten_inside, get_or-overwritten_below, get_or-overwritten_above}
use Rattle.nv_plain.proofs.laws.write_leaves_its_bytes.Goals as goal

pub returns : goal.returns
returns c = record {
  inside = get_or-overwritten_inside;
  outside = λ bytes source at k out. elim out [
    | inl below ↦ get_or-overwritten_below bytes source at k below
    | inr above ↦ get_or-overwritten_above bytes source at k above
  ];
  reach = length-overwritten;
}
