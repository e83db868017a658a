use Rattle.std.proofs.Common.{◌≡◌, ◌∙◌, refl, ℕ, ⊎_elim, ap, sym, arith, filter, length, map, get_or, replicate}
use Rattle.std.proofs.lemmas.Bool.{cases_lt}
use Rattle.std.proofs.lemmas.List.{get_or-replicate, get_or_past, length-map, length-replicate}
use Rattle.petri_atom.specs.Definition.{offers_number}
use Rattle.petri_atom.specs.Atom.{definition_of}
use Rattle.petri_atom.specs.Transition.{transition_of}
use Rattle.petri_atom.proofs.Fitting.{few_ports, known_ports_of}
use Rattle.petri_atom.proofs.Numbers.{numbers-none}
use Rattle.petri_atom.proofs.atom.Atom.counts_among.Goals as goal

zeros : (n k z : ℕ) → get_or (replicate n z) k z ≡ z
zeros n k z = ⊎_elim
    (λ within. get_or-replicate n k z z within)
    (λ past. get_or_past (replicate n z) k z (omega (arith, past, length-replicate n z)))
    (cases_lt k n)

pub loop-port-init : goal.loop-port-init
loop-port-init c = (λ state given k below. absurd (omega arith), λ k _. zeros 32 k 0, λ k. omega (arith, zeros 32 k 0), refl)

pub returns-clause-counts : goal.returns-clause-counts
returns-clause-counts c state given port =
    let atom = c.args.self.now in
    let ts = map transition_of atom.transitions.items in
    let as_many : length c.ports-port-end.result.now ≡ length atom.ports.items =
    sym (length-map c.ports-port-end.result.now _) ∙ ap length c.ports-port-end.ensures ∙ length-map atom.ports.items _ in
    ⊎_elim
    (λ below. c.loop-port.invariant.0 state given port below)
    (λ past. c.loop-port.invariant.1 port past ∙
    sym (ap (λ ns. length (filter (offers_number (definition_of atom) state) ns)) (numbers-none (length atom.ports.items) port 0 ts (known_ports_of atom) (omega (arith, as_many, c.loop-port-test.false, past)))))
    (cases_lt port c.loop-port.port)

pub returns-clause-ports : goal.returns-clause-ports
returns-clause-ports c = few_ports (definition_of c.args.self.now) c.args.self.now.well_formed
