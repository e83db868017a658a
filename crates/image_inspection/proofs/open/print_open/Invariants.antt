-- The numbers from this one on are left, and whether one of those before is a doubt is known.
use Rattle.std.proofs.Common.{◌≡◌, ◌+◌, ◌-◌, ◌||◌}
use Rattle.std.specs.Prelude.{flat_map}
use Rattle.std.specs.List.{list_any, range_with_len}
use Rattle.text_io.proofs.Leading.{Leads}
use Rattle.plant_image.specs.Reading.{contents_in}
use Rattle.image_inspection.specs.Open.{ahead_of, is_doubted, open_line}
use Rattle.image_inspection.proofs.open.print_open.Given as goal

abbrev pub invariant-loop-number : goal.invariant-loop-number
invariant-loop-number g l = record {
  printed : Leads (g.W.Write.contents l.initial.output) (g.W.Write.contents l.output)
      (flat_map (open_line l.cells l.atoms (contents_in l.held)) (range_with_len l.number (l.base + l.ring - l.number)))
      (flat_map (open_line l.cells l.atoms (contents_in l.held)) (ahead_of (contents_in l.held)));
  doubted : list_any (is_doubted l.cells l.atoms (contents_in l.held)) (ahead_of (contents_in l.held))
      ≡ (l.doubted || list_any (is_doubted l.cells l.atoms (contents_in l.held)) (range_with_len l.number (l.base + l.ring - l.number)));
}
