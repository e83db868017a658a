use Rattle.std.proofs.Common.{◌≡◌, sym, subst, true, false}
use Rattle.disk_model.specs.DiskState.{DiskState}
use Rattle.bip_image.specs.Care.{is_in_doubt}
use Rattle.bip_image.proofs.looking.looked_into.Goals as goal

pub returns-clause-careful : goal.returns-clause-careful
returns-clause-careful g c careful keeps =
    subst (λ (s : DiskState). is_in_doubt c.args.system.now s ≡ false) c.new-cells.ensures
    (c.in_ok-look_into.ensures.careful careful (subst (λ (s : DiskState). s.keeps ≡ true) (sym c.new-cells.ensures) keeps))
