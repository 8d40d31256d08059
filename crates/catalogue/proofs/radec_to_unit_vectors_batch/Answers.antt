-- `catalogue::radec_to_unit_vectors_batch` meets its contract. Assumes nothing.
use mathlib.Core.Path.{◌≡◌, refl, sym}
use borrow.Author.Rules.{rules}
use Rattle.std.specs.Prelude.{Err}
use Rattle.buffers.proofs.Refusals.{err_replied, ok_replied, err_unless, ok_unless}
use Rattle.catalogue.specs.Catalogue.{catalogue_reply, catalogue_after}
use Rattle.catalogue.proofs.Facts.{catalogue_facts}
use Rattle.catalogue.proofs.radec_to_unit_vectors_batch.Goals as goal

pub returns-in_err-catalogue_refusal : goal.returns-in_err-catalogue_refusal
unfolding catalogue_reply catalogue_after
returns-in_err-catalogue_refusal c =
    let e : c.from_residual.result ≡ Err c.in_err-catalogue_refusal.field-0.0 = search rules in
    let h = c.in_err-catalogue_refusal.ensures in
    record {
      result_value = rw e (err_replied _ _ _ h);
      out_after = err_unless _ _ _ _ h;
    }

pub write_units-requires : goal.write_units-requires
write_units-requires c = let f = catalogue_facts _ _ _ (sym c.in_ok-catalogue_refusal.ensures) in (f.same, f.room_for)

pub returns : goal.returns
unfolding catalogue_reply catalogue_after
returns c =
    let h = c.in_ok-catalogue_refusal.ensures in
    record {
      result_value = ok_replied _ _ _ h refl;
      out_after = ok_unless _ _ _ _ h c.write_units.ensures;
    }
