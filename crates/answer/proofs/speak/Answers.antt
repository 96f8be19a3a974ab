-- `answer::speak` meets its contract. Assumes nothing.
use Prim.Native.Nat.{ℕ}
use mathlib.Core.Path.{◌≡◌, ap, sym, subst, ◌∙◌}
use mathlib.Core.List.{List}
use Rattle.wire.specs.Said as wire
use Rattle.wire.specs.Write.{Output, Meets, write_as}
use Rattle.wire.specs.Write.{Written}
use Rattle.promise.specs.Spoken.{spoken}
use Rattle.promise.specs.declared.Reply as answer
use Rattle.answer.specs.Speech.{kind_of, say_on, said_of}
use Rattle.answer.specs.SpeechLaws.{say-said}
use borrow.Author.Rules.{rules}
use Rattle.answer.proofs.speak.Goals as goal

-- what the writer of the answer's kind meets
met :
    {reply case : answer.Reply} (out : List ℕ) (r : Written) (bytes : List ℕ) → reply ≡ case
    → Meets (write_as (kind_of (spoken case)) (wire.figures (said_of case)) out) r bytes
    → Meets (say_on (spoken reply) out) r bytes
met {reply} {case} out r bytes e m =
    subst (λ (o : Output). Meets o r bytes)
    (sym (ap (λ (x : answer.Reply). say_on (spoken x) out) e ∙ say-said case out)) m

pub returns-in-Taken : goal.returns-in-Taken
returns-in-Taken c = met _ _ _ c.in-Taken.is (search rules)

pub returns-in-Already : goal.returns-in-Already
returns-in-Already c = met _ _ _ c.in-Already.is (search rules)

pub returns-in-Verdict : goal.returns-in-Verdict
returns-in-Verdict c = met _ _ _ c.in-Verdict.is (search rules)

pub returns-in-Wait : goal.returns-in-Wait
returns-in-Wait c = met _ _ _ c.in-Wait.is (search rules)

pub returns-in-Refused : goal.returns-in-Refused
returns-in-Refused c = met _ _ _ c.in-Refused.is (search rules)

pub returns-in-Gossiped : goal.returns-in-Gossiped
returns-in-Gossiped c = met _ _ _ c.in-Gossiped.is (search rules)
