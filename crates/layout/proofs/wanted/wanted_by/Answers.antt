-- `wanted::wanted_by`: each pseudo by the reader of its operands, from its source's first word on.
use mathlib.Core.Path.{◌≡◌}
use Rattle.numbers.specs.Code.Cursors.{spaced_operands_from}
use Rattle.layout.specs.Pseudos.{pseudo_operands}
use Rattle.layout.proofs.ExpansionLaws.{source_operands}
use Rattle.layout.proofs.wanted.wanted_by.Goals as goal
use Rattle.layout.proofs.wanted.wanted_by.Goals.{After-word_len-at}

at-operands : (d : After-word_len-at) → spaced_operands_from d.args.s.now d.word_len-at.result ≡ pseudo_operands d.args.s.now
at-operands d = source_operands _ _ d.word_len-at.ensures

pub returns-in-Li : goal.returns-in-Li
returns-in-Li c = rw (c.in-Li.is, ← at-operands (goal.at.returns-in-Li c).After-word_len-at) c.register_and_number.ensures

pub returns-in-La : goal.returns-in-La
returns-in-La c = rw (c.in-La.is, ← at-operands (goal.at.returns-in-La c).After-word_len-at) c.register_and_label.ensures

pub returns-in-Push : goal.returns-in-Push
returns-in-Push c = rw (c.in-Push.is, ← at-operands (goal.at.returns-in-Push c).After-word_len-at) c.one_register.ensures

pub returns-in-Pop : goal.returns-in-Pop
returns-in-Pop c = rw (c.in-Pop.is, ← at-operands (goal.at.returns-in-Pop c).After-word_len-at) c.one_register-in-Pop.ensures

pub returns-in-Print : goal.returns-in-Print
returns-in-Print c = rw (c.in-Print.is, ← at-operands (goal.at.returns-in-Print c).After-word_len-at) c.one_register-in-Print.ensures

pub returns-in-PrintStr : goal.returns-in-PrintStr
returns-in-PrintStr c = rw (c.in-PrintStr.is, ← at-operands (goal.at.returns-in-PrintStr c).After-word_len-at) c.one_label.ensures

pub returns-in-Read : goal.returns-in-Read
returns-in-Read c = rw (c.in-Read.is, ← at-operands (goal.at.returns-in-Read c).After-word_len-at) c.one_label-in-Read.ensures

pub returns-in-ReadByte : goal.returns-in-ReadByte
returns-in-ReadByte c = rw (c.in-ReadByte.is, ← at-operands (goal.at.returns-in-ReadByte c).After-word_len-at) c.one_label-in-ReadByte.ensures

pub returns-in-Random : goal.returns-in-Random
returns-in-Random c = rw (c.in-Random.is, ← at-operands (goal.at.returns-in-Random c).After-word_len-at) c.one_register-in-Random.ensures
