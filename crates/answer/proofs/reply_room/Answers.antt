-- `answer::reply_room` meets its contract: the room by the wire's table. Assumes nothing.
use mathlib.Core.Path.{◌∙◌, ap, sym}
use Rattle.std.specs.Prelude.{unwrap_or}
use Rattle.wire.specs.Requests.{reply_room, refusal_long}
use Rattle.answer.specs.TableLaws.{room-table}
use Rattle.answer.proofs.reply_room.Goals as goal

pub returns : goal.returns
returns c =
    c.unwrap_or.ensures
    ∙ ap (λ r. unwrap_or r refusal_long) (c.room_of.ensures ∙ ap reply_room c.kind_of.ensures)
    ∙ sym (room-table c.args.msg.now)
