use Rattle.door.proofs.Decoding.{no_language_lem, made_language}
use Rattle.door.proofs.languages.language.Goals as goal

pub returns-then-numbers-ne-LANGUAGE_NUMBERS : goal.returns-then-numbers-ne-LANGUAGE_NUMBERS
returns-then-numbers-ne-LANGUAGE_NUMBERS c = no_language_lem c.args.numbers.now c.if-numbers-ne-LANGUAGE_NUMBERS.true

pub returns : goal.returns
returns c = made_language c.args.numbers.now _ _ _ _ c.if-numbers-ne-LANGUAGE_NUMBERS.false c.component.ensures c.component-2.ensures c.component-3.ensures c.component-4.ensures
