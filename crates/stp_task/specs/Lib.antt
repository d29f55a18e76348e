pub mod Durations
pub mod Actions
pub mod SoundTask
pub mod Tasks
pub mod Certificates
pub mod CertificateViews
