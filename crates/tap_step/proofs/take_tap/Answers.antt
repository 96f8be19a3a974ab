-- `tap_step::take_tap` meets its contract. Assumes nothing.
use mathlib.Core.Path.{◌≡◌, ap, subst, sym, ◌∙◌}
use lib.Dec.{T}
use Rattle.stamp.specs.Parts.{list_of}
use Rattle.tally.specs.Body.{Body, says, body_of, body_fits}
use Rattle.tally.proofs.BodyLaws.{body-word, says-word, tap-body}
use Rattle.tally.proofs.WordLaws.{fits_bits}
use Rattle.ledger.specs.Record.{stamp_of}
use Rattle.meaning.specs.Reply.{taken}
use Rattle.meaning.specs.Step.{new_record, take_book, take_out, tap_step}
use Rattle.meaning.specs.Done.{TakeDone}
use Rattle.meaning.proofs.StepLaws.{tap-by-none}
use Rattle.lent.specs.SoundWords.{lawful-held}
use Rattle.lent.specs.Words.{book_of, words_of}
use Rattle.promise.specs.LentLaws.{owes}
use Rattle.tap_step.proofs.take_tap.Goals as goal

pub pack-w-requires : goal.pack-w-requires
pack-w-requires c =
    let done : (let b = book_of c.args.b.now in
    let t = c.args.asked.tap in
    let l = list_of c.args.asked.label in
    TakeDone b (says t) l × (tap_step b t l ≡ take_out b (says t) l)) =
    let w = c.args in tap-by-none (book_of w.b.now) w.asked.tap (list_of w.asked.label) c.requires.unstopped in
    fits_bits c.args.asked.tap (done).0.said_fits_lem

pub enter-requires : goal.enter-requires
enter-requires c =
    let done : (let b = book_of c.args.b.now in
    let t = c.args.asked.tap in
    let l = list_of c.args.asked.label in
    TakeDone b (says t) l × (tap_step b t l ≡ take_out b (says t) l)) =
    let w = c.args in tap-by-none (book_of w.b.now) w.asked.tap (list_of w.asked.label) c.requires.unstopped in
    let same : body_of c.pack-w.result ≡ says c.args.asked.tap =
    let t = c.args.asked.tap in
    ap body_of (c.pack-w.ensures ∙ sym (says-word t)) ∙ body-word (says t) (done).0.said_fits_lem in
    let ws = c.args.b.now in
    let l = list_of c.args.asked.label in
    let fits = subst (λ w. T (body_fits w)) (sym c.pack-w.ensures) (tap-body c.args.asked.tap (done).0.said_fits_lem) in
    record {
      held = lawful-held ws c.requires.sound;
      t = fits;
      take_done = subst (λ (x : Body). TakeDone (book_of ws) x l) (sym (same)) (done).0;
    }

pub returns : goal.returns
returns c =
    let done : (let b = book_of c.args.b.now in
    let t = c.args.asked.tap in
    let l = list_of c.args.asked.label in
    TakeDone b (says t) l × (tap_step b t l ≡ take_out b (says t) l)) =
    let w = c.args in tap-by-none (book_of w.b.now) w.asked.tap (list_of w.asked.label) c.requires.unstopped in
    let same : body_of c.pack-w.result ≡ says c.args.asked.tap =
    let t = c.args.asked.tap in
    ap body_of (c.pack-w.ensures ∙ sym (says-word t)) ∙ body-word (says t) (done).0.said_fits_lem in
    let b = book_of c.args.b.now in
    let t = c.args.asked.tap in
    let l = list_of c.args.asked.label in
    owes (tap_step b t l) (take_out b (says t) l) _ _ (done).1
    (ap taken (c.enter.ensures.result_value ∙ ap (λ (x : Body). stamp_of (new_record b x l)) (same)))
    (c.enter.ensures.b_after ∙ ap (λ (x : Body). words_of (take_book b x l)) (same))
