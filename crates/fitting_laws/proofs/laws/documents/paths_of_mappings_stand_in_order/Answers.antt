use Rattle.fitting_laws.proofs.MappingOrder.{mapping_lined}
use Rattle.fitting_laws.proofs.laws.documents.paths_of_mappings_stand_in_order.Goals as goal

pub returns : goal.returns
returns c = mapping_lined
