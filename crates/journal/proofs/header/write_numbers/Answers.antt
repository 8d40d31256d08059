-- `journal::header::write_numbers` meets its contract. Assumes nothing.
use mathlib.Core.Path.{refl}
use native.Mathlib.Omega.{arith}
use lib.ListN.{length-append}
use Rattle.journal.proofs.Text.{length_hex}
use Rattle.journal.proofs.Write.{field_first, field_next, header_written}
use Rattle.journal.proofs.header.write_numbers.Goals as goal

pub returns : goal.returns
returns c = let a = c.args in
    let o = a.out.now in
    let f1 = field_first o _ 8 a.targets (omega arith) c.write_hex.ensures in
    let f2 = field_next o _ _ _ 8 8 a.times f1 (length_hex 8 a.targets) (omega arith) c.write_hex-2.ensures in
    let f3 = field_next o _ _ _ 16 8 a.n f2 (simp (length-append, length_hex) refl) (omega arith) c.write_hex-3.ensures in
    let f4 = field_next o _ _ _ 24 16 a.tolerance f3 (simp (length-append, length_hex) refl) (omega arith) c.write_hex-4.ensures in
    let f5 = field_next o _ _ _ 40 2 a.configured f4 (simp (length-append, length_hex) refl) (omega arith) c.write_hex-5.ensures in
    let f6 = field_next o _ _ _ 42 16 a.roll f5 (simp (length-append, length_hex) refl) (omega arith) c.write_hex-6.ensures in
    let f7 = field_next o _ _ _ 58 16 a.x f6 (simp (length-append, length_hex) refl) (omega arith) c.write_hex-7.ensures in
    let f8 = field_next o _ _ _ 74 16 a.y f7 (simp (length-append, length_hex) refl) (omega arith) c.write_hex-8.ensures in
    let f9 = field_next o _ _ _ 90 16 a.z f8 (simp (length-append, length_hex) refl) (omega arith) c.write_hex-9.ensures in
    (header_written o _ a.targets a.times a.n a.tolerance a.configured a.roll a.x a.y a.z c.requires f9).0
