-- What document 01's small program writes for an input. Assumes nothing.
use Rattle.std.specs.Prelude.{ℕ, zero, suc, Bool, true, false, cond, List, [], ◌∷◌, ◌++◌, length, take, drop}
use Rattle.std.proofs.Math.Option.{Option, none, some}
use Rattle.meaning.specs.Reply.{Reply, refusal}
use Rattle.frames.specs.Next.{next_of}
use Rattle.frames.specs.declared.Frame.{Frame}
use Rattle.frames.specs.declared.Frame.TheVariants.{More, Whole, Stop}
use Rattle.answer.specs.Speech.{bytes_for}
use Rattle.answer.specs.Answer.{done_on, open_from}

-- no more bytes come: an end inside a message is as an unexpected kind or a count above 256
abbrev pub on_whole : Frame → List ℕ → (ℕ → List ℕ) → List ℕ
on_whole (Whole n) broken whole = whole n
on_whole (More n) broken whole = broken
on_whole Stop broken whole = broken

-- 09 01
abbrev pub bad : List ℕ
bad = bytes_for (refusal 1)

-- an open book's replies to all that is left, of at most so many messages; an end between messages stops it without a
-- word
unfoldable pub said_to : ℕ → List ℕ → List ℕ → List ℕ
said_to zero words rest = []
said_to (suc most) words [] = []
said_to (suc most) words (kind ∷ rest) =
    on_whole (next_of (kind ∷ rest) true) bad (λ n.
    let done = done_on words (take n (kind ∷ rest)) in
    done.says ++ said_to most done.words (drop n (kind ∷ rest)))

-- a message has at least one byte
abbrev pub said_from : List ℕ → List ℕ → List ℕ
said_from words rest = said_to (length rest) words rest

-- a refused open is said, and stops the program
abbrev pub open_says : Option Reply → List ℕ → List ℕ → List ℕ
open_says none words rest = said_from words rest
open_says (some r) words rest = bytes_for r

unfoldable pub said_by : List ℕ → List ℕ → List ℕ
said_by words input =
    on_whole (next_of input false) bad (λ n.
    let o = open_from words (take n input) in
    open_says o.refused o.words (drop n input))

-- what is said to all that is left of an input, before kind 11 and after it
abbrev pub said_in : Bool → List ℕ → List ℕ → List ℕ
said_in opened words left = cond opened (said_from words left) (said_by words left)
