use Rattle.layout.specs.Stage.{label_step}
use Rattle.layout.proofs.labels.label_step.Goals as goal

pub add_label-requires : goal.add_label-requires
add_label-requires c = (c.requires.0, c.requires.1, c.requires.2, rw c.in-Some.is at c.requires.3)

pub returns-in-Some : goal.returns-in-Some
unfolding label_step
returns-in-Some c = rw c.in-Some.is c.add_label.ensures

pub returns-in-None : goal.returns-in-None
unfolding label_step
returns-in-None c = λ ls h. rw c.in-None.is h
