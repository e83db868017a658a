use Rattle.text_io.proofs.digest.digest_of.Goals as goal

pub returns : goal.returns
returns c = c.digest.ensures
