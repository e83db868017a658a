use Rattle.std.proofs.Common.{◌≡◌, ◌+◌, ◌<◌, ◌++◌, [], ◌∙◌, List, ℕ, refl, sym, ap, subst, arith, length, get_or, take, All}
use Rattle.std.specs.List.{flat_map}
use Rattle.std.proofs.lemmas.List.{append-nil, length-append, take_all}
use Rattle.std.proofs.lemmas.List.Elements.{All-more, All-nil}
use Rattle.std.proofs.lemmas.Option.{get_or_from_slice_get}
use Rattle.record_codec.specs.declared.entry.Entry.{Entry}
use Rattle.record_codec.specs.declared.fired.TheConstants.{HEAD}
use Rattle.record_codec.specs.Bytes.{eight_bytes, two_bytes, one_byte, padded}
use Rattle.record_codec.specs.Entry.{EntryFits, entry_bytes}
use Rattle.record_codec.proofs.Numbers.{length-one_byte, length-two_bytes, length-eight_bytes}
use Rattle.record_codec.proofs.Written.{run_more, take-padded}
use Rattle.record_codec.proofs.fired.spell.Goals as goal

-- what stands before so many entries
abbrev head : ℕ → ℕ → ℕ → List ℕ
head number connector count = eight_bytes number ++ two_bytes connector ++ one_byte count

length-head : (number connector count : ℕ) → length (head number connector count) ≡ HEAD
length-head number connector count = simp length-append (omega (arith, length-eight_bytes number, length-two_bytes connector, length-one_byte count))

-- and with the first entries behind it
abbrev front : ℕ → ℕ → List Entry → ℕ → List ℕ
front number connector all i = head number connector (length all) ++ flat_map entry_bytes (take i all)

pub loop-place-init : goal.loop-place-init
loop-place-init g c =
    let all = g.E.EntrySource.entries c.args.entries.now in
    let before = head c.args.number c.args.connector (length all) in
    let same : before ++ [] ≡ before = append-nil before in
    record {
      end = sym (ap length same ∙ length-head c.args.number c.args.connector (length all));
      within = omega arith;
      written =
          c.put_head.ensures
          ∙ ap (λ (n : ℕ). padded n (head c.args.number c.args.connector c.count-count.result)) (sym c.put_head.auto.body)
          ∙ ap (λ (n : ℕ). padded (length c.put_head.new.body) (head c.args.number c.args.connector n)) c.count-count.ensures
          ∙ ap (padded (length c.put_head.new.body)) (sym same);
      fits = All-nil EntryFits;
    }

pub put_entry-end-requires-clause-clear : goal.put_entry-end-requires-clause-clear
put_entry-end-requires-clause-clear g c =
    let body = c.loop-place.body in
    let written = front c.args.number c.args.connector (g.E.EntrySource.entries c.args.entries.now) c.loop-place.place in
    c.loop-place.invariant.written
    ∙ ap (padded (length body)) (sym (ap (take c.loop-place.end) c.loop-place.invariant.written ∙ take-padded (length body) c.loop-place.end written c.loop-place.invariant.end))

pub loop-place-preserved : goal.loop-place-preserved
loop-place-preserved g c =
    let all = g.E.EntrySource.entries c.args.entries.now in
    let i = c.loop-place.place in
    let end = c.loop-place.end in
    let body = c.loop-place.body in
    let later = c.put_entry-end.new.body in
    let e = c.entry.result in
    let written = front c.args.number c.args.connector all i in
    let within : i < length all = omega (arith, c.loop-place-test.true, c.count-count.ensures) in
    let is : get_or all i e ≡ e = get_or_from_slice_get all i e e c.entry.ensures in
    let kept : take end body ≡ written = ap (take end) c.loop-place.invariant.written ∙ take-padded (length body) end written c.loop-place.invariant.end in
    let grown : written ++ entry_bytes e ≡ front c.args.number c.args.connector all (i + 1) =
    ap (λ (x : Entry). written ++ entry_bytes x) (sym is) ∙ run_more entry_bytes (head c.args.number c.args.connector (length all)) written all i e within refl in
    record {
      end = c.put_entry-end.ensures.end ∙ ap (λ (n : ℕ). n + length (entry_bytes e)) c.loop-place.invariant.end ∙ sym (length-append written (entry_bytes e)) ∙ ap length grown;
      within = omega (arith, c.loop-place.invariant.within, c.put_entry-end.ensures.few);
      written =
          c.put_entry-end.ensures.written
          ∙ ap (λ (n : ℕ). padded n (take end body ++ entry_bytes e)) (sym c.put_entry-end.auto.body)
          ∙ ap (λ (s : List ℕ). padded (length later) (s ++ entry_bytes e)) kept
          ∙ ap (padded (length later)) grown;
      fits = All-more EntryFits all i e within c.loop-place.invariant.fits (subst EntryFits (sym is) c.put_entry-end.ensures.fits);
    }

pub returns-clause-spelled : goal.returns-clause-spelled
returns-clause-spelled g c =
    let all = g.E.EntrySource.entries c.args.entries.now in
    let done : take c.loop-place.place all ≡ all = take_all c.loop-place.place all (omega (arith, c.loop-place-test.false, c.count-count.ensures)) in
    c.loop-place.invariant.written
    ∙ ap (λ (n : ℕ). padded n (front c.args.number c.args.connector all c.loop-place.place)) (c.loop-place.auto.body ∙ c.put_head.auto.body)
    ∙ ap (λ (es : List Entry). padded (length c.args.body.now) (head c.args.number c.args.connector (length all) ++ flat_map entry_bytes es)) done

pub returns-clause-fits : goal.returns-clause-fits
returns-clause-fits g c =
    let all = g.E.EntrySource.entries c.args.entries.now in
    let done : take c.loop-place.place all ≡ all = take_all c.loop-place.place all (omega (arith, c.loop-place-test.false, c.count-count.ensures)) in
    record { entries = subst (λ (es : List Entry). All EntryFits es) done c.loop-place.invariant.fits }
