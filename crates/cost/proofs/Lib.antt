-- For a reader: that the counts foretold are those of the sweeps (Foretold), and calls by computation (Examples). The rest: what is known of sizes and lists that are not refused (Facts), a pattern over and
-- over (Repeated), the even samples (Samples).
pub mod Foretold
pub mod Examples
mod Facts
mod Repeated
mod Samples
