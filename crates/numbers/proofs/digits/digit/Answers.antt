-- `digits::digit`: each arm lies in one of the three runs of digits, or beside them.
use mathlib.Core.Path.{sym}
use borrow.Author.Rules.{rules}
use Rattle.numbers.proofs.Values.{digit-decimal, digit_upper, digit_lower, none_below, none_between, none_between_cases, none_above}
use Rattle.numbers.proofs.digits.digit.Goals as goal

pub returns-in-48-to-57 : goal.returns-in-48-to-57
returns-in-48-to-57 c = sym (digit-decimal c.args.b (search rules) (search rules))

pub returns-in-65-to-70 : goal.returns-in-65-to-70
returns-in-65-to-70 c = sym (digit_upper c.args.b (search rules) (search rules))

pub returns-in-97-to-102 : goal.returns-in-97-to-102
returns-in-97-to-102 c = sym (digit_lower c.args.b (search rules) (search rules))

pub returns-in_default : goal.returns-in_default
returns-in_default c = sym (none_below _ c.in_default.if-b-lt48-own.true)

pub returns-in_default-2 : goal.returns-in_default-2
returns-in_default-2 c = sym (none_between _ c.in_default.if-b-lt58-own.false c.in_default.if-b-lt65-own.true)

pub returns-in_default-3 : goal.returns-in_default-3
returns-in_default-3 c = sym (none_between_cases _ c.in_default.if-b-lt71-own.false c.in_default.if-b-lt97-own.true)

pub returns-in_default-4 : goal.returns-in_default-4
returns-in_default-4 c = sym (none_above _ c.in_default.if-b-lt103-own.false)
