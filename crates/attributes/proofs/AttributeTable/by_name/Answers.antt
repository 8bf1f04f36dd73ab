-- `attributes::AttributeTable::by_name` meets its contract. Assumes nothing.
use Rattle.attributes.specs.SoundLaws.{by_name_within}
use Rattle.attributes.proofs.AttributeTable.by_name.Goals as goal

pub returns-clause-within : goal.returns-clause-within
returns-clause-within c = by_name_within _ _ c.args.self.sound _ c.by_name.ensures
