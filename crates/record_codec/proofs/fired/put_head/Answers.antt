use Rattle.std.proofs.Common.{◌≡◌, ◌++◌, ◌∙◌, List, ℕ, ap, arith, length, drop}
use Rattle.record_codec.specs.Bytes.{eight_bytes, two_bytes, one_byte, padded}
use Rattle.record_codec.specs.declared.fired.TheConstants.{HEAD}
use Rattle.record_codec.proofs.Written.{padded_first}
use Rattle.record_codec.proofs.fired.put_head.Goals as goal

pub returns : goal.returns
returns c =
    let bytes : List ℕ = eight_bytes c.args.number ++ two_bytes c.args.connector ++ one_byte c.args.count in
    let written : c.one.new.self ≡ bytes =
    c.one.ensures.written
    ∙ ap (λ (s : List ℕ). s ++ one_byte c.args.count)
    (c.two.ensures.written ∙ ap (λ (s : List ℕ). s ++ two_bytes c.args.connector) (c.eight.ensures.written ∙ ap (λ (s : List ℕ). s ++ eight_bytes c.args.number) c.new-head.ensures)) in
    let size : length bytes ≡ HEAD = omega (arith, ap length written, c.one.ensures.len, c.two.ensures.len, c.eight.ensures.len, ap length c.new-head.ensures) in
    ap (λ (s : List ℕ). s ++ drop HEAD c.args.body.now) (c.copy_from_slice.ensures.after ∙ c.body.ensures ∙ ap (padded HEAD) written)
    ∙ padded_first bytes c.args.body.now HEAD (omega (arith, size)) c.requires.room c.requires.clear
