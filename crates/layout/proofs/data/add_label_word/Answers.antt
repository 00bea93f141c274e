-- `data::add_label_word`: an address's place, name and line; another write makes no label word.
use Rattle.layout.proofs.DataLaws.{word_none, word_many, word_goes}
use Rattle.layout.proofs.data.add_label_word.Goals as goal

pub returns-in_default : goal.returns-in_default
returns-in_default c = word_none _ _ _ _ _ c.args.write c.in_default.not-Address

pub returns-then-count-ge-LABEL_WORD_LIMIT : goal.returns-then-count-ge-LABEL_WORD_LIMIT
returns-then-count-ge-LABEL_WORD_LIMIT c = word_many _ _ _ _ _ _ _ c.in-Address.is c.if-count-ge-LABEL_WORD_LIMIT.true

pub returns : goal.returns
returns c =
    word_goes _ _ _ _ _ _ _ c.in-Address.is _ c.requires.2 c.if-count-ge-LABEL_WORD_LIMIT.false c.put.auto.table
    c.put.ensures
