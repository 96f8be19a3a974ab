-- Laws on the question's promise: a well-formed question to a sound book is answered exactly when the book's value
-- stamp covers its label. Assumes nothing.
use Rattle.std.specs.Prelude.{ℕ, ◌≡◌, Bool, true, ◌&&◌, cond, List, T, ltb, get_or}
use Rattle.std.proofs.Common.{sym, ap, subst, ◌∙◌, ltb→lt}
use Rattle.lists.specs.TestLaws.{and_l, and_r}
use Rattle.limits.specs.Limits.{prompt_count}
use Rattle.stamp.specs.Stamp.{at_most, stamp_fits}
use Rattle.wire.specs.Kinds.{shaped, stamp_at, question_kind}
use Rattle.wire.specs.Read.{line_of, readable}
use Rattle.meaning.proofs.AnswerLaws.{answered_exactly}
use Rattle.meaning.specs.BookLaws.{at-sound}
use Rattle.meaning.specs.Reply.{is_answered, refusal}
use Rattle.meaning.specs.Step.{ask}
use Rattle.lent.specs.SoundWords.{lawful-sound}
use Rattle.lent.specs.Words.{book_of, lawful}
use Rattle.promise.specs.Lent.{heard, label_in, question_on}
use Rattle.promise.specs.LentLaws.{lent_of}

pub question-answered :
    (ws bytes : List ℕ) → lawful ws ≡ true → readable (question_kind (book_of ws).screens) bytes ≡ true
    → is_answered (question_on ws bytes).reply ≡ at_most (label_in ws bytes) (book_of ws).value
unfolding question_on readable question_kind
question-answered ws bytes e r =
    let b = book_of ws in
    let line = line_of (question_kind b.screens) bytes in
    let kept : T (ltb (get_or line 1 0) prompt_count && stamp_fits b.screens (stamp_at 2 line)) = and_r (shaped 4 bytes)
    (ltb (get_or line 1 0) prompt_count && stamp_fits b.screens (stamp_at 2 line)) (subst T (sym r) tt) in
    let o = ask b (get_or line 1 0) (stamp_at 2 line) in
    ap (λ (c : Bool). is_answered
    (cond c (lent_of (heard (readable (question_kind b.screens) bytes) b o))
    (record { reply = refusal 11; words = ws })).reply) e
    ∙ ap (λ (c : Bool). is_answered (heard c b o).reply) r
    ∙ answered_exactly b (get_or line 1 0) (stamp_at 2 line) (at-sound b (lawful-sound ws (subst T (sym e) tt)))
    (ltb→lt (get_or line 1 0) prompt_count
    (and_l (ltb (get_or line 1 0) prompt_count) (stamp_fits b.screens (stamp_at 2 line)) kept))
    (and_r (ltb (get_or line 1 0) prompt_count) (stamp_fits b.screens (stamp_at 2 line)) kept)
