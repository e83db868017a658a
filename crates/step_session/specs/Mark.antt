-- What tells where an answer ends.
use Rattle.std.specs.Prelude.{ℕ, List, [], ◌++◌, codes}
use Rattle.step_session.specs.declared.mark.Mark.{Mark}
use Rattle.step_session.specs.declared.mark.Mark.TheVariants.{Prompt, End, Nothing}

-- what is printed before a line is read
abbrev pub prompt_text : Mark → List ℕ
prompt_text Prompt = codes "> "
prompt_text End = []
prompt_text Nothing = []

-- what is printed after an answer
abbrev pub end_text : Mark → List ℕ
end_text Prompt = []
end_text End = codes "end\n"
end_text Nothing = []

-- what is printed where the lines end: the end of the line in which the last prompt stands
abbrev pub last_text : Mark → List ℕ
last_text Prompt = codes "\n"
last_text End = []
last_text Nothing = []

-- an answer, and what tells where it ends
abbrev pub ended_text : Mark → List ℕ → List ℕ
ended_text mark answer = answer ++ end_text mark
