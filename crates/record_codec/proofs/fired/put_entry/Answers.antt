use Rattle.std.proofs.Common.{◌≡◌, ◌+◌, ◌-◌, ◌≤◌, ◌++◌, ◌∙◌, List, ℕ, sym, ap, arith, length, take}
use Rattle.std.proofs.lemmas.List.{length-take-le}
use borrow.Rule.Slice.PartMut.{put_mid}
use Rattle.record_codec.specs.Bytes.{padded}
use Rattle.record_codec.specs.Entry.{entry_bytes}
use Rattle.record_codec.specs.declared.layout.TheConstants.{LONGEST_ENTRY}
use Rattle.record_codec.proofs.Written.{padded_over}
use Rattle.record_codec.proofs.fired.put_entry.Goals as goal

pub returns-clause-written : goal.returns-clause-written
returns-clause-written c =
    let at = c.args.at in
    let body = c.args.body.now in
    let bytes = entry_bytes c.args.entry.now in
    let written : c.entry.new.self ≡ bytes = c.entry.ensures.written ∙ ap (λ (s : List ℕ). s ++ bytes) c.new-writer.ensures in
    let few : length bytes ≤ LONGEST_ENTRY = omega (arith, ap length written, c.entry.ensures.len, ap length c.new-writer.ensures) in
    let is : at ≡ length (take at body) = sym (length-take-le at body (omega (arith, c.requires.room))) in
    ap (λ (s : List ℕ). put_mid at (at + LONGEST_ENTRY - at) body s) (c.copy_from_slice.ensures.after ∙ c.body.ensures ∙ ap (padded LONGEST_ENTRY) written)
    ∙ ap (λ (s : List ℕ). put_mid at (at + LONGEST_ENTRY - at) s (padded LONGEST_ENTRY bytes)) c.requires.clear
    ∙ padded_over (take at body) bytes at LONGEST_ENTRY (length body) is c.requires.room few
