pub mod House
pub mod Demand
pub mod Consent
pub mod Agree
pub mod LentHouse
pub mod HostHouse
