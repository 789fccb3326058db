pub mod RackLemmas
