-- A lawful book's words are held by its book: what the readers of the words ask. Assumes nothing.
use Rattle.lent.specs.SoundWords.{lawful-held}

pub ruleset held = (lawful-held)
