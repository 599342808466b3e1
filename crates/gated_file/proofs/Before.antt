-- A disk that was only read, through several calls.
use Rattle.std.proofs.Common.{◌≡◌, inl, inr, ⊎_elim, refl, ◌∙◌, arith}
use Rattle.outside.specs.Disk.{DiskTells, IsLawful, AddsNothing, Elapses}
use Rattle.gated_file.specs.Moments.{IsAsBefore}

-- before the first call
pub unread : (disk : DiskTells) → IsLawful disk → IsAsBefore disk disk
unread disk lawful = record {
  same = refl;
  no_others = λ c now. now;
  moments = record { later = omega arith; each = lawful.only_now; before = λ t c le left. inl left };
}

-- one call more
pub reads_on : (old mid new : DiskTells) → IsAsBefore old mid → new.bytes ≡ mid.bytes → AddsNothing mid new
    → Elapses mid new → IsAsBefore old new
reads_on old mid new so_far same fewer time = record {
  same = same ∙ so_far.same;
  no_others = λ c now. so_far.no_others c (fewer c now);
  moments = record {
    later = omega (arith, so_far.moments.later, time.later);
    each = λ c left. ⊎_elim (so_far.moments.each c) (λ now. so_far.no_others c (fewer c now)) (time.nothing_else old.moment c so_far.moments.later left);
    before = λ t c le left. ⊎_elim (so_far.moments.before t c le) (λ now. inr (so_far.no_others c (fewer c now))) (time.nothing_else t c (omega (arith, le, so_far.moments.later)) left);
  };
}

-- several calls, and then several more
pub reads_both : (old mid new : DiskTells) → IsAsBefore old mid → IsAsBefore mid new → IsAsBefore old new
reads_both old mid new first then = record {
  same = then.same ∙ first.same;
  no_others = λ c now. first.no_others c (then.no_others c now);
  moments = record {
    later = omega (arith, first.moments.later, then.moments.later);
    each = λ c left. ⊎_elim (first.moments.each c) (first.no_others c) (then.moments.before old.moment c first.moments.later left);
    before = λ t c le left. ⊎_elim (first.moments.before t c le) (λ now. inr (first.no_others c now)) (then.moments.before t c (omega (arith, le, first.moments.later)) left);
  };
}
