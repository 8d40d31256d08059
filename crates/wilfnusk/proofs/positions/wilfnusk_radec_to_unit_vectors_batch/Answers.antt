-- `wilfnusk::positions::wilfnusk_radec_to_unit_vectors_batch` meets its contract. Assumes nothing.
use Rattle.wilfnusk.proofs.positions.wilfnusk_radec_to_unit_vectors_batch.Goals as goal

pub returns : goal.returns
returns c = let call = c.radec_to_unit_vectors_batch.ensures in
    record { value = simp (c.int64.ensures, call.result_value); out_after = call.out_after }
