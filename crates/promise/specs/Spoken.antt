-- The reply that an answer gives: this paper's number and values for each case follow by `figures`. Assumes nothing.
use Rattle.stamp.specs.Parts.{list_of}
use Rattle.meaning.specs.Reply.{Reply, taken, already, verdict, wait, refusal, gossiped}
use Rattle.promise.specs.declared.Reply as answer
use Rattle.promise.specs.declared.Reply.TheVariants as says

abbrev pub spoken : answer.Reply → Reply
spoken (says.Taken s) = taken (list_of s)
spoken (says.Already s) = already (list_of s)
spoken (says.Verdict v) = verdict v.verdict v.showing v.accepts v.declines (list_of v.value)
spoken (says.Wait bits) = wait bits
spoken (says.Refused k) = refusal k
spoken (says.Gossiped g) = gossiped g.new g.applied
