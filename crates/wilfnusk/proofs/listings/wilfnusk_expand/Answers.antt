use Rattle.wilfnusk.proofs.listings.wilfnusk_expand.Goals as goal

pub returns : goal.returns
returns c = let call = c.expand.ensures in
    record { value = simp (c.int64.ensures, call.answer); mask_after = call.mask }
