pub mod HornerLemmas
