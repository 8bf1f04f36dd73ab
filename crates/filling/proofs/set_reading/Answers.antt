-- `filling::set_reading` meets its contract. Assumes nothing.
use Rattle.filling.proofs.SettingLaws.{list_few, scale_fits}
use Rattle.filling.proofs.set_reading.Goals as goal

pub overflow_cast-scale : goal.overflow_cast-scale
overflow_cast-scale c = scale_fits c.in-Float.scale (rw c.in-Float.is at c.requires.1)

pub set_list-requires : goal.set_list-requires
set_list-requires c = (c.requires.0, list_few c.args.reading c.args.list.now c.in-IntegerList.is c.requires.1)
